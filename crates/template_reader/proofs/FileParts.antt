-- The parts of a whole file.
use Rattle.std.proofs.Common.{◌≡◌, ℕ, ◌<◌, ◌≤◌, arith, Bool, true, false, List, [], None, refl, sym, ap, subst, ◌∙◌}
use Rattle.std.proofs.lemmas.List.{append-nil}
use Rattle.std.specs.Option.{is_some}
use Rattle.std.specs.Prelude.{if◌then◌else◌}
use Rattle.grammar.specs.Grammar.{many}
use Rattle.grammar.specs.Fault.{FirstFault, FirstPast}
use Rattle.grammar.specs.Reading.{Read, Stuck, Past}
use Rattle.grammar.specs.Reading as reading
use Rattle.grammar.proofs.Exact.{read_again, is_first_fault, is_first_past}
use Rattle.grammar.proofs.Laws.{Always, AtEnd, Stops}
use Rattle.grammar.proofs.Parts.{Part, Opens, ◌>>=◌, give_part, then_opens, many_part, some_part, whole_part, opens_then, first_is}
use Rattle.template_items.specs.declared.item.Item.{Item}
use Rattle.template_items.specs.declared.item.Mark.TheVariants as marks
use Rattle.tmpl.specs.Body.{Body}
use Rattle.template_tags.specs.Terminals.{is_mark, label_of, IsReal}
use Rattle.template_tags.specs.Tag.{mark, expr, any_expr}
use Rattle.template_reader.specs.Template.{body, Entry, is_sort, named_value, collection_head, function_head, head_rest, template, within, spelled}
use Rattle.template_reader.specs.Reading.{read_collection_head, read_function_head, read_named_head, is_named, read_head_rest, read_template, read_file}
use Rattle.template_tags.proofs.Known.{known_or}
use Rattle.template_tags.proofs.ItemFacts.{has_value, some_value, mark_part, name_part, mark_opens, mark_no_token}
use Rattle.template_reader.proofs.BodyParts.{ends_body, body_part, body_grows, many_map}

collection_head_part : (name : List ℕ) → Part IsReal (collection_head name) (collection_head name) Always (read_collection_head name)
unfolding read_collection_head
collection_head_part name = do
  _ ← mark_part marks.Close refl
  give_part (record { of_collection = true; name = name })

function_head_part : (name : List ℕ) → Part IsReal (function_head name) (function_head name) Always (read_function_head name)
unfolding read_function_head
function_head_part name = do
  _ ← mark_part marks.Close refl
  give_part (record { of_collection = false; name = name })

function_head_opens : (name : List ℕ) (W : Item → Type 0) → ((i : Item) → is_mark marks.Close i ≡ true → W i) → Opens (function_head name) W
function_head_opens name W holds = opens_then (mark marks.Close) _ W (mark_opens marks.Close W holds)

if_none : (b : Bool) → is_some {T = List ℕ} (if b then None else None) ≡ false
if_none true = refl
if_none false = refl

close_not_named : (n : List ℕ) (i : Item) → is_mark marks.Close i ≡ true → is_named n i ≡ false
close_not_named n i e = ap (λ k. is_some (if is_sort n then label_of k else None)) (mark_no_token marks.Close i e) ∙ if_none (is_sort n)

head_rest_part : (n : List ℕ) → Part IsReal (head_rest n) (head_rest n) Always (read_head_rest n)
unfolding read_head_rest read_named_head
head_rest_part n =
    known_or (named_value n) (is_named n) (λ i w e. has_value (named_value n i) w e) (λ i e. some_value (named_value n i) e) collection_head_part (function_head_part n)
    (λ x v rest h _. first_is (function_head n) (is_named n) false (function_head_opens n (λ i. is_named n i ≡ false) (close_not_named n)) x v rest h)

template_part : (deeper : ℕ) → 32 < deeper → Part IsReal (template (body expr 32 [])) (template (body any_expr deeper [])) Always read_template
unfolding read_template
template_part deeper less = do
  _ ← mark_part marks.OpenTemplate refl
  n ← name_part
  h ← head_rest_part n
  then_opens (λ i. is_mark marks.EndTemplate i ≡ true) (body_part 32 deeper less [])
      (λ b. do
        _ ← mark_part marks.EndTemplate refl
        give_part (record { of_collection = h.of_collection; name = h.name; body = b }))
      (λ b. opens_then (mark marks.EndTemplate) _ _ (mark_opens marks.EndTemplate _ (λ i e. e)))
      (λ i later e. ends_body marks.EndTemplate refl refl refl i e)

template_opens : (B : List Item → Body → Type 0) → Opens (template B) (λ i. is_mark marks.OpenTemplate i ≡ true)
template_opens B = opens_then (mark marks.OpenTemplate) _ _ (mark_opens marks.OpenTemplate _ (λ i e. e))

template_map : (B C : List Item → Body → Type 0) → ((x : List Item) (v : Body) → B x v → C x v) → (x : List Item) (v : Entry) → template B x v → template C x v
template_map B C more x v h =
    let h1 = h.5 in let h2 = h1.5 in let h3 = h2.5 in
    (h.0, h.1, h.2, h.3, h.4, (h1.0, h1.1, h1.2, h1.3, h1.4, (h2.0, h2.1, h2.2, h2.3, h2.4, (h3.0, h3.1, h3.2, h3.3, more h3.0 h3.2 h3.4, h3.5))))

abbrev files : ℕ → List Item → List Entry → Type 0
files depth = many (template (body any_expr depth []))

files_part : (deeper : ℕ) → 33 ≤ deeper → Part IsReal within (files deeper) (Stops (is_mark marks.OpenTemplate)) (reading.repeat (is_mark marks.OpenTemplate) read_template)
files_part deeper less = many_part (is_mark marks.OpenTemplate) (template_part deeper (omega (arith, less))) (template_opens (body any_expr deeper []))

files_grow : (n m : ℕ) (x : List Item) (v : List Entry) → n ≤ m → files n x v → files m x v
files_grow n m x v le h =
    many_map (template (body any_expr n [])) (template (body any_expr m [])) (template_map (body any_expr n []) (body any_expr m []) (λ y w k. body_grows n m [] y w le k)) x v h

pub file_part : Part IsReal within spelled AtEnd read_file
unfolding read_file
file_part = whole_part (some_part within files (Stops (is_mark marks.OpenTemplate)) (reading.repeat (is_mark marks.OpenTemplate) read_template) 33 files_part files_grow) refl

-- ---- what reading a whole file finds

pub is_spelled : (items : List Item) (found : List Entry) → read_file items ≡ Read found [] → within items found
is_spelled items found e =
    let s = (file_part.reads items).sound found [] e in
    subst (λ ts. within ts found) (sym (s.1 ∙ append-nil s.0)) s.2

pub is_only : (items : List Item) (found : List Entry) → within items found → read_file items ≡ Read found []
is_only = read_again IsReal within spelled read_file file_part.reads

pub is_fault : (items rest : List Item) → read_file items ≡ Stuck rest → FirstFault IsReal within spelled items rest
is_fault = is_first_fault IsReal within spelled read_file file_part.reads

pub is_past : (items rest : List Item) → read_file items ≡ Past rest → FirstPast IsReal within spelled items rest
is_past = is_first_past IsReal within spelled read_file file_part.reads

-- the loop over templates
pub entry_part : Part IsReal (template (body expr 32 [])) (template (body any_expr 33 [])) Always read_template
entry_part = template_part 33 (omega arith)

pub entry_opens : Opens (template (body any_expr 33 [])) (λ i. is_mark marks.OpenTemplate i ≡ true)
entry_opens = template_opens (body any_expr 33 [])
