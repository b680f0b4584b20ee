-- The ascending list of the elements of a list.
use Rattle.std.proofs.Common.{List, [], ◌∷◌, inl, inr, subst}
use Rattle.std.specs.Prelude.{Contains}
use Rattle.std.specs.declared.cmp.Ordering.{Ordering}
use Rattle.std.specs.BTreeSet.{insert_key}
use Rattle.std.specs.Cmp.{IsTotalOrder}
use Rattle.std.specs.FinMap.{IsAntisymmetric}
use Rattle.sd_value.specs.Members.{Contains-nil, Contains-cons_cases, Contains-here, Contains-there}
use Rattle.sd_value.specs.Ascending.{ListsExactly}
use Rattle.sd_value.specs.AscendingLaws.{lists_nothing, listed_as}
use Rattle.sd_graph.specs.Inserted.{inserted-there, inserted-cases, inserted-here, inserted-ascends}
use Rattle.site_graphs.proofs.Lists.{AllOf}

module _ {X : Type 0} (R : X → X → Ordering) (total : IsTotalOrder R) (exact : IsAntisymmetric R) where
  abbrev ascending : List X → List X
  ascending [] = []
  ascending (x ∷ xs) = insert_key R (ascending xs) x

  ascending_lists : (xs : List X) → ListsExactly R (Contains xs) (ascending xs)
  ascending_lists [] = lists_nothing R (Contains []) Contains-nil
  ascending_lists (x ∷ xs) =
      let rest = ascending_lists xs in
      record {
        ascending = inserted-ascends R total x (ascending xs) rest.ascending;
        sound = λ z h. elim (inserted-cases R x (ascending xs) z h) [
          | inl e ↦ subst (Contains (x ∷ xs)) e (Contains-here x xs)
          | inr old ↦ Contains-there x xs z (rest.sound z old)
        ];
        complete = λ z h. elim (Contains-cons_cases x xs z h) [
          | inl e ↦ subst (Contains (insert_key R (ascending xs) x)) e (inserted-here R exact x (ascending xs))
          | inr old ↦ inserted-there R x (ascending xs) z (rest.complete z old)
        ];
      }

  -- all that has P, in order
  pub all_ascending : (P : X → Type 0) → AllOf P → (xs : List X) × ListsExactly R P xs
  all_ascending P all = (ascending all.items, listed_as (ascending_lists all.items) all.sound all.complete)
