-- Lists by how many items they have.
use Rattle.std.specs.Prelude.{◌≡◌, ◌<◌, ◌≤◌, ◌==◌, List, [], ◌∷◌, length, true, false, Some}
use Rattle.std.proofs.Common.{refl, subst, sym, ◌∙◌, arith}
use Rattle.std.proofs.lemmas.Bool.{ne_eqb}
use Rattle.serde_json.specs.Data.{Data, array}
use Rattle.serde_json.specs.Find.{as_array}
use Rattle.serde_json.specs.View.{items_view, members_view}
use Rattle.serde_json.specs.declared.value.Value.{Value as Json}
use Rattle.serde_json.proofs.Views.{Entry}
use Rattle.json_source.specs.Tables.{is_empty_list, are_empty_lists, holds_empty_lists}
use Rattle.json_source.specs.Orders.{has_two}

pub few_items : (xs : List Json) → length xs < 2 → has_two (items_view xs) ≡ false
few_items [] few = refl
few_items (x ∷ []) few = refl
few_items (x ∷ y ∷ xs) few = absurd (omega (arith, few))

pub two_items : (xs : List Json) → 2 ≤ length xs → has_two (items_view xs) ≡ true
two_items [] many = absurd (omega (arith, many))
two_items (x ∷ []) many = absurd (omega (arith, many))
two_items (x ∷ y ∷ xs) many = refl

pub empty_list_is : (d : Data) (xs : List Json) → Some (items_view xs) ≡ as_array d → is_empty_list d ≡ (length xs == 0)
empty_list_is (array ds) [] e =
    let none : List Json = [] in
    let same : items_view none ≡ ds = cc in
    subst (λ y. is_empty_list (array y) ≡ true) same refl
empty_list_is (array ds) (x ∷ xs) e =
    let same : items_view (x ∷ xs) ≡ ds = cc in
    let some : (length (x ∷ xs) == 0) ≡ false = ne_eqb (length (x ∷ xs)) 0 (λ none. omega (arith, none)) in
    subst (λ y. is_empty_list (array y) ≡ false) same refl ∙ sym some
empty_list_is d xs e = cc

pub some_members : (es : List Entry) → (length es ≡ 0 → ⊥) → holds_empty_lists (members_view es) ≡ are_empty_lists (members_view es)
some_members [] some = absurd (some refl)
some_members (e ∷ es) some = refl
