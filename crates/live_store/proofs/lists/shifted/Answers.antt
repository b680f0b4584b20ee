use Rattle.std.specs.Prelude.{◌≡◌, Bool, true, false, not, IsTrue, List, ◌++◌, Contains}
use Rattle.std.specs.declared.cmp.Ordering.{Ordering}
use Rattle.std.specs.List.{filter, list_any}
use Rattle.std.specs.BTreeMap.{is_at}
use Rattle.std.specs.Cmp.{IsTotalOrder}
use Rattle.std.specs.FinMap.{IsAntisymmetric}
use Rattle.std.proofs.Common.{rules, refl, sym, ap, ◌∙◌, subst, inl, inr}
use Rattle.std.proofs.lemmas.Fn.{filter_same}
use Rattle.std.proofs.lemmas.List.Elements.{Contains-append_cases, Contains-append_left, Contains-append_right}
use Rattle.sd_value.specs.Ascending.{ListsExactly}
use Rattle.sd_value.specs.AscendingLaws.{listed_as}
use Rattle.list_lookup.specs.PickedLaws.{filter-sound, filter-complete}
use Rattle.live_store.specs.Shift.{IsShifted}
use Rattle.live_store.proofs.ListLaws.{any_is}
use Rattle.live_store.proofs.lists.shifted.Goals as goal

off : (b : Bool) → not b ≡ true → IsTrue b → ⊥
off true e t = cc
off false e t = cc

on : (b : Bool) → (IsTrue b → ⊥) → not b ≡ true
on true n = absurd (n refl)
on false n = refl

module _ {X : Type 0} (R : X → X → Ordering) (total : IsTotalOrder R) (exact : IsAntisymmetric R) (bs ds cs all : List X) where
  what : all ≡ filter (λ x. not (list_any (is_at (R x)) ds)) bs ++ cs → (xs : List X) → ListsExactly R (Contains all) xs
      → ListsExactly R (IsShifted bs ds cs) xs
  what is xs lists = listed_as lists
      (λ x m. elim (Contains-append_cases (filter (λ y. not (list_any (is_at (R y)) ds)) bs) cs x (subst (λ ys. Contains ys x) is m)) [
        | inl k ↦ (let found = filter-sound (λ y. not (list_any (is_at (R y)) ds)) bs x k in
            inl (found.0, λ d. off (list_any (is_at (R x)) ds) found.1 ((any_is R total exact x ds).1 d)))
        | inr c ↦ inr c
      ])
      (λ x h. subst (λ ys. Contains ys x) (sym is) (elim h [
        | inl k ↦ Contains-append_left (filter (λ y. not (list_any (is_at (R y)) ds)) bs) cs x
            (filter-complete (λ y. not (list_any (is_at (R y)) ds)) bs x k.0
            (on (list_any (is_at (R x)) ds) (λ t. k.1 ((any_is R total exact x ds).0 t))))
        | inr c ↦ Contains-append_right (filter (λ y. not (list_any (is_at (R y)) ds)) bs) cs x c
      ]))

pub returns : goal.returns
returns g c =
    let kept = filter_same _ (λ x. not (list_any (is_at (g.K.Ord.cmp x)) c.args.gone.items)) _ (λ x b f' k. search rules) _ _
    c.retain.ensures.filtered in
    what g.K.Ord.cmp g.met.K.Ord.total g.met.K.ExactOrd.exact c.args.base.items c.args.gone.items c.args.came.items
    c.append.new.self.items (c.in_ok-append.ensures.items ∙ ap (λ xs. xs ++ c.args.came.items) kept)
    c.sort_and_dedup.new.items.items c.sort_and_dedup.ensures
