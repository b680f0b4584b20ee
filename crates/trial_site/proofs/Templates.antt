-- The templates of a trial are read, by evaluation.
use Rattle.std.proofs.Common.{◌≡◌, inl, inr, List, [], ◌∷◌, length, refl, sym, arith, subst, Option, Some, None, Result}
use Rattle.std.proofs.Common.{Ok, Err}
use Rattle.grammar.specs.Reading.{Outcome, Read, Stuck, Past, repeat}
use Rattle.template_items.specs.declared.item.Item.{Item}
use Rattle.template_items.specs.Scanning.{first_state}
use Rattle.tmpl.specs.Body.{TemplateFile}
use Rattle.template_layouts.specs.declared.refusal.TmplRefusal.{TmplRefusal}
use Rattle.template_reader.specs.Template.{Entry, within}
use Rattle.template_reader.specs.Reading.{read_text, read_format, read_leaf, read_compared, read_not_compared}
use Rattle.template_reader.specs.Reading.{read_comparing, read_same, read_no_comparison, read_comparison, read_of_values}
use Rattle.template_reader.specs.Reading.{read_of_count, read_test, read_no_other, read_other_branch}
use Rattle.template_reader.specs.Reading.{read_ending, read_branches, read_tested, read_negated}
use Rattle.template_reader.specs.Reading.{read_choice_rest, read_repeated, read_repeat_rest, read_choice}
use Rattle.template_reader.specs.Reading.{read_repeat, read_block, read_part, read_body_of, read_body}
use Rattle.template_reader.specs.Reading.{read_collection_head, read_function_head, read_named_head}
use Rattle.template_reader.specs.Reading.{read_head_rest, read_template, read_file}
use Rattle.template_tags.specs.Reading.{read_mark, read_dotted, read_word, read_joined_word, read_here}
use Rattle.template_tags.specs.Reading.{read_here_of, read_collection, read_of_loop, read_loop, read_place}
use Rattle.template_tags.specs.Reading.{read_fold, read_descend, read_ways, read_expr, read_key, read_order, read_limit, read_delimiter, read_found, read_label, read_link}
use Rattle.template_tags.specs.Reading.{read_close, read_next, read_settings}
use Rattle.template_tags.specs.Terminals.{writing_word, is_later_word, mode_word, setting_word, compare_word, keyword_of}
use Rattle.template_reader.specs.Entries.{file_from, AreRead}
use Rattle.template_layouts.specs.Together.{together}
use Rattle.template_reader.specs.Faults.{Whole, met, templates_of, written, IsWholeAnswer, IsTemplatesAnswer}
use Rattle.template_reader.proofs.FileParts.{is_spelled}
use Rattle.template_reader.proofs.Made.{alone_is}
use Rattle.template_reader.proofs.TemplateFiles.{one_answer}
use Rattle.command_spec.specs.Limits.{text_limit}
use Rattle.trial_spec.specs.Texts.{templates_text}
use Rattle.trial_site.specs.Accepted.{AreTemplatesText}
use Rattle.trial_site.proofs.Scanned.{scanned, with_item, by_front, scanned_sound}

-- the items of the text, as the scanner finds them
unfoldable items_or : Option (List Item) → List Item
items_or None = []
items_or (Some items) = items

unfoldable items : List Item
unfolding scanned with_item by_front items_or
items = items_or (scanned templates_text 300 (first_state templates_text))

are_scanned : scanned templates_text 300 (first_state templates_text) ≡ Some items
unfolding items
are_scanned = refl

-- the templates that they spell, as the reader finds them
unfoldable entries_or : Outcome Item (List Entry) → List Entry
entries_or (Read entries rest) = entries
entries_or (Stuck rest) = []
entries_or (Past rest) = []

-- the items where nothing is put in
unfoldable plain : List Item
unfolding items
plain = written items

are_plain : written items ≡ plain
unfolding plain
are_plain = refl

unfoldable entries : List Entry
unfolding plain entries_or repeat writing_word is_later_word mode_word setting_word compare_word keyword_of read_text read_format read_leaf
    read_compared read_not_compared read_comparing read_same read_no_comparison read_comparison
    read_of_values read_of_count read_test read_no_other read_other_branch read_ending
    read_branches read_tested read_negated read_choice_rest read_repeated read_repeat_rest read_choice
    read_repeat read_block read_part read_body_of read_body read_collection_head read_function_head
    read_named_head read_head_rest read_template read_file read_mark read_dotted read_word read_joined_word
    read_here read_here_of read_collection read_of_loop read_loop read_place read_expr read_fold read_descend read_ways read_key read_order
    read_limit read_delimiter read_found read_label read_link read_close read_next read_settings
entries = entries_or (read_file plain)

are_read : read_file plain ≡ Read entries []
unfolding entries
are_read = refl

-- the templates with what is put in, and each of them read alone
unfoldable lists : List (List Item)
unfolding items
lists = templates_of (together items)

are_lists : templates_of (together items) ≡ lists
unfolding lists
are_lists = refl

unfoldable and_read : Outcome Item Entry → Option (List Entry) → Option (List Entry)
and_read (Read e []) (Some others) = Some (e ∷ others)
and_read outcome others = None

unfoldable read_alone : List (List Item) → Option (List Entry)
read_alone [] = Some []
read_alone (t ∷ templates) = and_read (read_template t) (read_alone templates)

unfoldable made_or : Option (List Entry) → List Entry
made_or None = []
made_or (Some found) = found

unfoldable made : List Entry
unfolding lists and_read read_alone made_or repeat writing_word is_later_word mode_word setting_word compare_word keyword_of read_text read_format
    read_leaf read_compared read_not_compared read_comparing read_same read_no_comparison read_comparison
    read_of_values read_of_count read_test read_no_other read_other_branch
    read_ending read_branches read_tested read_negated read_choice_rest read_repeated read_repeat_rest read_choice
    read_repeat read_block read_part read_body_of read_body read_collection_head read_function_head
    read_named_head read_head_rest read_template read_mark read_dotted read_word read_joined_word
    read_here read_here_of read_collection read_of_loop read_loop read_place read_expr read_fold read_descend read_ways read_key read_order
    read_limit read_delimiter read_found read_label read_link read_close read_next read_settings
made = made_or (read_alone lists)

are_alone : read_alone lists ≡ Some made
unfolding made
are_alone = refl

and_sound : (t : List Item) (templates : List (List Item)) (o : Outcome Item Entry) (others : Option (List Entry))
    → read_template t ≡ o → read_alone templates ≡ others
    → ((es : List Entry) → read_alone templates ≡ Some es → AreRead templates es)
    → (found : List Entry) → and_read o others ≡ Some found → AreRead (t ∷ templates) found
unfolding and_read
and_sound t templates (Read e []) (Some others) here there sound found is =
    let whole : e ∷ others ≡ found = cc in
    subst (AreRead (t ∷ templates)) whole (alone_is t e here, sound others there)
and_sound t templates (Read e []) None here there sound found is = absurd cc
and_sound t templates (Read e (i ∷ rest)) others here there sound found is = absurd cc
and_sound t templates (Stuck rest) others here there sound found is = absurd cc
and_sound t templates (Past rest) others here there sound found is = absurd cc

alone_sound : (templates : List (List Item)) (found : List Entry) → read_alone templates ≡ Some found → AreRead templates found
unfolding read_alone
alone_sound [] [] is = tt
alone_sound [] (e ∷ found) is = absurd cc
alone_sound (t ∷ templates) found is =
    and_sound t templates (read_template t) (read_alone templates) refl refl (λ es e. alone_sound templates es e) found is

-- nothing is met
none_met : met items ≡ None
unfolding items
none_met = refl

accepted : IsTemplatesAnswer text_limit templates_text (Ok (file_from made))
accepted =
    let size : length templates_text ≡ 248 = refl in
    let these : AreRead lists made = alone_sound lists made are_alone in
    let whole : IsWholeAnswer (met items) (templates_of (together items)) (Ok (file_from made)) =
    rw (none_met, are_lists) (inl (made, these, refl)) in
    inr (
      omega (arith, size),
      items,
      scanned_sound templates_text 300 (first_state templates_text) items are_scanned,
      (Whole entries, subst (λ x. within x entries) (sym are_plain) (is_spelled plain entries are_read), whole),
    )

no_refusal : (refusal : TmplRefusal) → IsTemplatesAnswer text_limit templates_text (Err refusal) → ⊥
no_refusal refusal h =
    let both : ◌≡◌ {A = Result TemplateFile TmplRefusal} (Ok (file_from made)) (Err refusal) =
    one_answer text_limit templates_text (Ok (file_from made)) (Err refusal) accepted h in
    cc

pub templates_accepted : AreTemplatesText text_limit templates_text
templates_accepted = record { file = file_from made; accepted = accepted; never_refused = no_refusal }
