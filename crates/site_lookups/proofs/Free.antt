-- Rows and targets when nothing is bound.
use Rattle.std.proofs.Common.{◌≡◌, ◌∙◌, List, [], ◌∷◌, length, ap, subst, sym, ⊎_elim}
use Rattle.std.specs.Prelude.{Option, None, Some, Contains, ◌↔◌, Bool, true, false}
use Rattle.std.specs.Option.{MatchOption}
use Rattle.std.specs.Ordering.{eq_by_cmp}
use Rattle.sd_value.specs.declared.Value.{Value}
use Rattle.sd_value.specs.Order.{bytes_cmp}
use Rattle.sd_value.specs.Members.{Contains-nil, Contains-cons_cases, Contains-here}
use Rattle.sd_value.specs.Ascending.{ListsExactly}
use Rattle.sd_value.specs.AscendingLaws.{listed_as}
use Rattle.graph_spec.specs.DataGraph.{DataGraph, Name}
use Rattle.query_spec.specs.Query.{Target, Chain, Collect}
use Rattle.query_spec.specs.declared.Variable.{Variable}
use Rattle.query_spec.specs.Holds.{Assignment}
use Rattle.query_spec.specs.Rows.{row_cmp, Agrees, IsRow, IsAnswer}
use Rattle.site_spec.specs.Site.{IsTargetUnder, IsPut, SomeRow}
use Rattle.site_lookups.proofs.Rows.{row_long}
use Rattle.site_lookups.proofs.Targets.{target_same, name_is}

-- where nothing is bound, all rows are asked for
pub all_rows : (G : DataGraph) (c : Chain) (bound : List (Option Value)) (rows : List (List Value)) → ((row : List Value) → length row ≡ length c.variables → Agrees row bound)
    → ListsExactly row_cmp (IsAnswer G c bound) rows → ListsExactly row_cmp (IsRow G c) rows
all_rows G c bound rows free exact = listed_as exact (λ row a. a.is_row) (λ row r. record { is_row = r; agrees = free row (row_long G c row r) })

pub target_some : (t : Target) (s : Assignment) (o : Option Value) (v : Value) → o ≡ Some v → MatchOption o ((w : Value) → IsTargetUnder s t w → ⊥) (λ w. IsTargetUnder s t w) → IsTargetUnder s t v
target_some t s o v e m = subst (λ (x : Option Value). MatchOption x ((w : Value) → IsTargetUnder s t w → ⊥) (λ w. IsTargetUnder s t w)) e m

pub target_none : (t : Target) (s : Assignment) (o : Option Value) → o ≡ None → MatchOption o ((w : Value) → IsTargetUnder s t w → ⊥) (λ w. IsTargetUnder s t w) → (w : Value) → IsTargetUnder s t w → ⊥
target_none t s o e m = subst (λ (x : Option Value). MatchOption x ((w : Value) → IsTargetUnder s t w → ⊥) (λ w. IsTargetUnder s t w)) e m

pub only_target : (t : Target) (s : Assignment) (v w : Value) → IsTargetUnder s t v → Contains (v ∷ []) w → IsTargetUnder s t w
only_target t s v w h i = ⊎_elim (λ e. subst (IsTargetUnder s t) e h) (λ n. absurd (Contains-nil w n)) (Contains-cons_cases v [] w i)

pub is_only_target : (t : Target) (s : Assignment) (v w : Value) → IsTargetUnder s t v → IsTargetUnder s t w → Contains (v ∷ []) w
is_only_target t s v w h i = subst (Contains (v ∷ [])) (target_same s t v w h i) (Contains-here v [])

-- a COLLECT of this name
pub put_same : (G : DataGraph) (c : Chain) (k : Collect) (name : Name) (b : Bool) (vs : List Value) → b ≡ eq_by_cmp bytes_cmp k.collection name → b ≡ true
    → ((v : Value) → Contains vs v ↔ SomeRow G c (λ s. IsTargetUnder s k.target v)) → (v : Value) → Contains vs v ↔ IsPut G c name v k
put_same G c k name b vs e t listed v = (λ h. ((name_is k.collection name b e).0 t, (listed v).0 h), λ p. (listed v).1 p.1)

-- a COLLECT of another name
pub put_other : (G : DataGraph) (c : Chain) (k : Collect) (name : Name) (b : Bool) (vs : List Value) → b ≡ eq_by_cmp bytes_cmp k.collection name → b ≡ false → vs ≡ [] → (v : Value) → Contains vs v ↔ IsPut G c name v k
put_other G c k name b vs e t none v = (λ h. absurd (Contains-nil v (subst (λ (xs : List Value). Contains xs v) none h)), λ p. let yes = (name_is k.collection name b e).1 p.0 in absurd cc)

pub free_at : (xs ys : List Variable) (values bound : List (Option Value)) → xs ≡ ys → bound ≡ values → ((row : List Value) → length row ≡ length xs → Agrees row values) → (row : List Value) → length row ≡ length ys → Agrees row bound
free_at xs ys values bound e f free row l = subst (Agrees row) (sym f) (free row (l ∙ ap length (sym e)))
