-- Counts by name, entered from the last one on.
use Rattle.std.specs.Prelude.{◌≡◌, ℕ, suc, zero, List, [], ◌∷◌, Bool, true, false, Some, None, cond, if◌then◌else◌, drop, length, unwrap_or, slice_get}
use Rattle.std.specs.Ordering.{is_eq}
use Rattle.std.specs.BTreeMap.{BTreeMap, get}
use Rattle.std.proofs.Common.{refl, sym, ap, ◌∙◌}
use Rattle.sd_value.specs.Order.{bytes_cmp}
use Rattle.graph_spec.specs.DataGraph.{Name}
use Rattle.plan_spec.specs.declared.Counted.{Counted}
use Rattle.plan_spec.specs.Shape.{count_of}
use Rattle.planner.specs.Prices.{CountsAs}

drop_past : {X : Type 0} (xs : List X) → drop (length xs) xs ≡ []
drop_past [] = refl
drop_past (x ∷ xs) = drop_past xs

drop_at : {X : Type 0} (xs : List X) (i : ℕ) (x : X) → slice_get xs i ≡ Some x → drop i xs ≡ x ∷ drop (suc i) xs
drop_at [] i x h = cc
drop_at (y ∷ xs) zero x h = let e : x ≡ y = cc in ap (λ z. z ∷ xs) (sym e)
drop_at (y ∷ xs) (suc i) x h = drop_at xs i x h

-- no name has a count in an empty map
pub counts_as-none : (counted : List Counted) (counts : BTreeMap Name ℕ) → ((name : Name) → get bytes_cmp counts name ≡ None) → CountsAs (drop (length counted) counted) counts
counts_as-none counted counts none name =
    ap (λ o. unwrap_or o 0) (none name) ∙ sym (ap (λ cs. count_of cs name) (drop_past counted))

-- one entry more, before those that are in the map
pub counts_as-more : (counted : List Counted) (i : ℕ) (entry : Counted) (old new : BTreeMap Name ℕ) → slice_get counted i ≡ Some entry
    → ((name : Name) → get bytes_cmp new name ≡ cond (is_eq (bytes_cmp entry.name name)) (Some entry.count) (get bytes_cmp old name))
    → CountsAs (drop (suc i) counted) old → CountsAs (drop i counted) new
counts_as-more counted i entry old new at gets before name =
    ap (λ o. unwrap_or o 0) (gets name) ∙ by (is_eq (bytes_cmp entry.name name))
    ∙ sym (ap (λ cs. count_of cs name) (drop_at counted i entry at))
  where
    by : (b : Bool) → unwrap_or (cond b (Some entry.count) (get bytes_cmp old name)) 0 ≡ (if b then entry.count else count_of (drop (suc i) counted) name)
    by true = refl
    by false = before name
