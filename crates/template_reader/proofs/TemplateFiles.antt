-- A file of templates has one answer.
use Rattle.std.proofs.Common.{◌≡◌, inl, inr, ℕ, List, [], ◌∷◌, ◌++◌, sym, ap, subst, ◌∙◌, arith, Option, Some, None, Result}
use Rattle.std.specs.Prelude.{Ok}
use Rattle.grammar.specs.Fault.{Every}
use Rattle.grammar.proofs.Exact.{one_value}
use Rattle.grammar.proofs.Parts.{part_within}
use Rattle.template_items.specs.declared.item.Item.{Item}
use Rattle.template_items.specs.Scanning.{AreItems}
use Rattle.template_items.proofs.Scanned.{one_list}
use Rattle.tmpl.specs.Body.{TemplateFile}
use Rattle.template_layouts.specs.declared.met.Met.{Met}
use Rattle.template_layouts.specs.declared.refusal.TmplRefusal.{TmplRefusal}
use Rattle.template_tags.specs.Terminals.{IsReal}
use Rattle.template_reader.specs.Template.{Entry, within, spelled}
use Rattle.template_reader.specs.Entries.{file_from}
use Rattle.template_reader.specs.Reading.{read_file}
use Rattle.template_layouts.specs.Written.{first_view}
use Rattle.template_layouts.specs.Together.{together}
use Rattle.template_reader.specs.Faults.{Ending, Whole, Unfit, Beyond, IsEnding, met, templates_of, written, IsMade, IsWholeAnswer, IsAnswerBy, IsWrittenAnswer, IsItemsAnswer}
use Rattle.template_reader.proofs.FileParts.{file_part}
use Rattle.template_reader.proofs.Made.{one_reading}
use Rattle.token_reader.proofs.Faults.{every_front, one_fault, one_past, fault_or_past, spelled_no_fault, spelled_no_past}
use Rattle.template_reader.specs.OneAnswer.{HasOneAnswer}
use Rattle.template_reader.proofs.Faultless.{IsNoFault, spelled_no_faults}
use Rattle.template_reader.proofs.Scanned.{IsUsual, items_usual, viewed_usual}

usual_real : (items : List Item) → Every IsUsual items → Every IsNoFault items → Every IsReal items
usual_real [] h k = tt
usual_real (i ∷ items) h k = (h.0 k.0, usual_real items h.1 k.1)

one_made : (templates : List (List Item)) (r s : Result TemplateFile TmplRefusal) → IsMade templates r → IsMade templates s → r ≡ s
one_made templates r s (inl (es, h, is)) (inl (fs, k, is2)) = is ∙ ap (λ x. Ok (file_from x)) (one_reading templates es fs h k) ∙ sym is2
one_made templates r s (inl (es, h, is)) (inr (none, is2)) = absurd (none es h)
one_made templates r s (inr (none, is)) (inl (fs, k, is2)) = absurd (none fs k)
one_made templates r s (inr (none, is)) (inr (none2, is2)) = is ∙ sym is2

one_whole : (first : Option Met) (templates : List (List Item)) (r s : Result TemplateFile TmplRefusal) → IsWholeAnswer first templates r → IsWholeAnswer first templates s → r ≡ s
one_whole None templates r s h k = one_made templates r s h k
one_whole (Some m) templates r s h k = h ∙ sym k

module _ (first : Option Met) (templates : List (List Item)) (items : List Item) where
  one_by : (e : Ending) (r s : Result TemplateFile TmplRefusal) → IsAnswerBy first templates items e r → IsAnswerBy first templates items e s → r ≡ s
  one_by (Whole es) r s h k = one_whole first templates r s h k
  one_by (Unfit rest) r s h k = h ∙ sym k
  one_by (Beyond rest) r s h k = h ∙ sym k

  module _ (usual : Every IsUsual items) where
    fronts_real : (front rest more : List Item) (v : List Entry) → items ≡ front ++ rest → within (front ++ more) v → Every IsReal front
    fronts_real front rest more v e h =
        usual_real front (every_front IsUsual front rest (subst (Every IsUsual) e usual)) (every_front IsNoFault front more (spelled_no_faults (front ++ more) v h))

    in_all : (x : List Item) (v : List Entry) → within x v → spelled x v
    in_all x v h = part_within file_part x v h

    one_ending : (e f : Ending) → IsEnding items e → IsEnding items f → e ≡ f
    one_ending (Whole es) (Whole fs) h k = ap Whole (one_value IsReal within spelled read_file file_part.reads items es fs h k)
    one_ending (Whole es) (Unfit rest) h k = absurd (spelled_no_fault IsReal within spelled in_all items fronts_real es rest h k)
    one_ending (Whole es) (Beyond rest) h k = absurd (spelled_no_past IsReal within spelled in_all items fronts_real es rest h k)
    one_ending (Unfit rest) (Whole fs) h k = absurd (spelled_no_fault IsReal within spelled in_all items fronts_real fs rest k h)
    one_ending (Unfit rest) (Unfit rest2) h k = ap Unfit (one_fault IsReal within spelled in_all items fronts_real rest rest2 h k)
    one_ending (Unfit rest) (Beyond rest2) h k = absurd (fault_or_past IsReal within spelled in_all items fronts_real rest rest2 h k)
    one_ending (Beyond rest) (Whole fs) h k = absurd (spelled_no_past IsReal within spelled in_all items fronts_real fs rest k h)
    one_ending (Beyond rest) (Unfit rest2) h k = absurd (fault_or_past IsReal within spelled in_all items fronts_real rest2 rest k h)
    one_ending (Beyond rest) (Beyond rest2) h k = ap Beyond (one_past IsReal within spelled in_all items fronts_real rest rest2 h k)

    one_written : (r s : Result TemplateFile TmplRefusal) → IsWrittenAnswer first templates items r → IsWrittenAnswer first templates items s → r ≡ s
    one_written r s (e, h, is) (f, k, is2) = one_by e r s is (subst (λ x. IsAnswerBy first templates items x s) (sym (one_ending e f h k)) is2)

pub one_items_answer : (bytes : List ℕ) (items : List Item) → AreItems bytes items → (r s : Result TemplateFile TmplRefusal) → IsItemsAnswer items r → IsItemsAnswer items s → r ≡ s
one_items_answer bytes items are = one_written (met items) (templates_of (together items)) (written items) (viewed_usual first_view items (items_usual bytes are))

pub one_answer : (limit : ℕ) (bytes : List ℕ) → HasOneAnswer limit bytes
one_answer limit bytes r s (inl h) (inl k) = h.1 ∙ sym k.1
one_answer limit bytes r s (inl h) (inr k) = absurd (omega (arith, h.0, k.0))
one_answer limit bytes r s (inr h) (inl k) = absurd (omega (arith, h.0, k.0))
one_answer limit bytes r s (inr (fits, items, are, h)) (inr (fits2, items2, are2, k)) =
    let same : items2 ≡ items = one_list bytes are2 are in
    one_items_answer bytes items are r s h (subst (λ x. IsItemsAnswer x s) same k)
