-- Where a link leads that ends at an aggregate.
use Rattle.std.proofs.Common.{◌≡◌, List, [], ◌∷◌, ⊎_elim, inl, inr, sym, subst}
use Rattle.std.specs.Prelude.{Option, Some, None, Contains, ◌↔◌}
use Rattle.std.specs.Option.{MatchOption}
use Rattle.sd_value.specs.Ascending.{ListsExactly}
use Rattle.sd_value.specs.AscendingLaws.{listed_as}
use Rattle.sd_value.specs.Members.{Contains-nil, Contains-cons_cases, Contains-here}
use Rattle.sd_value.specs.Order.{value_cmp}
use Rattle.sd_value.specs.declared.Term.{Term}
use Rattle.sd_value.specs.declared.Value.{Value}
use Rattle.sd_value.specs.declared.Value.TheVariants.{Page}
use Rattle.graph_spec.specs.DataGraph.{DataGraph, Name}
use Rattle.query_spec.specs.Query.{Aggregate, Target, summed, Link, Chain}
use Rattle.query_spec.specs.Rows.{value_in}
use Rattle.site_spec.specs.Site.{IsTargetUnder, IsPerRow, IsRowJoined, ended, part_of, IsToldOf, IsSummed, IsSum, IsJoined}
use Rattle.site_spec.proofs.Sums.{per_row_joined}
use Rattle.aggregate_values.specs.Told.{TellsOf}
use Rattle.aggregate_values.proofs.Telling.{told_same, tells_list}
use Rattle.site_lookups.specs.Ends.{LeadsTo}

-- ---- what is told, as a list

module _ (a : Aggregate) (P : Value → Type 0) (parts : List Value) (exact : ListsExactly value_cmp P parts) where
  told_at : (o : Option Value) (v : Value) → o ≡ Some v → MatchOption o ((w : Value) → IsToldOf a parts w → ⊥) (λ w. IsToldOf a parts w) → IsToldOf a parts v
  told_at o v e m = subst (λ (x : Option Value). MatchOption x ((w : Value) → IsToldOf a parts w → ⊥) (λ w. IsToldOf a parts w)) e m

  none_at : (o : Option Value) → o ≡ None → MatchOption o ((w : Value) → IsToldOf a parts w → ⊥) (λ w. IsToldOf a parts w) → (w : Value) → IsToldOf a parts w → ⊥
  none_at o e m = subst (λ (x : Option Value). MatchOption x ((w : Value) → IsToldOf a parts w → ⊥) (λ w. IsToldOf a parts w)) e m

  pub one_told : (o : Option Value) (end : Value) → o ≡ Some end → MatchOption o ((w : Value) → IsToldOf a parts w → ⊥) (λ w. IsToldOf a parts w) → (v : Value) → Contains (end ∷ []) v ↔ TellsOf a P v
  one_told o end e m v = (
    λ h. ⊎_elim (λ same. (parts, exact, subst (IsToldOf a parts) same (told_at o end e m))) (λ none. absurd (Contains-nil v none)) (Contains-cons_cases end [] v h),
    λ t. subst (Contains (end ∷ [])) (told_same a parts end v (told_at o end e m) (tells_list a P parts v exact t)) (Contains-here end []),
  )

  pub none_told : (o : Option Value) → o ≡ None → MatchOption o ((w : Value) → IsToldOf a parts w → ⊥) (λ w. IsToldOf a parts w) → (v : Value) → Contains [] v ↔ TellsOf a P v
  none_told o e m v = (λ h. absurd (Contains-nil v h), λ t. absurd (none_at o e m v (tells_list a P parts v exact t)))

-- ---- links

module _ (G : DataGraph) (c : Chain) (p : Term) (label : Name) (k : Link) where
  led_joins : (t : Target) (v : Value) → LeadsTo G c p label k t v → IsRowJoined G c (Page p) label v (ended k t)
  led_joins t v r = record { row = r.row; is_row = r.is_row; holds = record { from = r.holds.0.0; by = r.holds.0.1; to = r.holds.1 } }

  joins_led : (t : Target) (v : Value) → IsRowJoined G c (Page p) label v (ended k t) → LeadsTo G c p label k t v
  joins_led t v r = record { row = r.row; is_row = r.is_row; holds = ((r.holds.from, r.holds.by), r.holds.to) }

  pub summed_told : (a : Aggregate) (target : Target) (parts ends : List Value) → target ≡ part_of a → ((w : Value) → Contains parts w ↔ LeadsTo G c p label k target w)
      → ((v : Value) → Contains ends v ↔ TellsOf a (Contains parts) v) → (v : Value) → Contains ends v ↔ IsSummed G c (Page p) label v k a
  summed_told a target parts ends e led told v =
      let leads : (w : Value) → Contains parts w ↔ LeadsTo G c p label k (part_of a) w = subst (λ t. (w : Value) → Contains parts w ↔ LeadsTo G c p label k t w) e led in (
        λ h.
            let t = (told v).0 h in
            record { parts = t.0; all = listed_as t.1 (λ w i. led_joins (part_of a) w ((leads w).0 i)) (λ w r. (leads w).1 (joins_led (part_of a) w r)); told = t.2 },
        λ s. (told v).1 (s.parts, listed_as s.all (λ w r. (leads w).1 (joins_led (part_of a) w r)) (λ w i. led_joins (part_of a) w ((leads w).0 i)), s.told),
      )

  pub joined_by_sum : (a : Aggregate) (ends : List Value) → k.target ≡ summed a → ((v : Value) → Contains ends v ↔ IsSummed G c (Page p) label v k a) → (v : Value) → Contains ends v ↔ IsJoined G c (Page p) label v k
  joined_by_sum a ends e told v =
      let no_row : IsRowJoined G c (Page p) label v k → ⊥ = λ r. subst (λ t. IsTargetUnder (value_in c.variables r.row) t v) e r.holds.to in (
        λ h. inr (subst (IsSum G c (Page p) label v k) (sym e) ((told v).0 h)),
        λ j. ⊎_elim (λ r. absurd (no_row r)) (λ s. (told v).1 (subst (IsSum G c (Page p) label v k) e s)) j,
      )

  pub joined_by_rows : (ends : List Value) → IsPerRow k.target → ((v : Value) → Contains ends v ↔ LeadsTo G c p label k k.target v) → (v : Value) → Contains ends v ↔ IsJoined G c (Page p) label v k
  joined_by_rows ends per led v = (
    λ h. (let r = (led v).0 h in inl (record { row = r.row; is_row = r.is_row; holds = record { from = r.holds.0.0; by = r.holds.0.1; to = r.holds.1 } })),
    λ j. (let r = per_row_joined G c (Page p) label v k per j in (led v).1 (record { row = r.row; is_row = r.is_row; holds = ((r.holds.from, r.holds.by), r.holds.to) })),
  )
