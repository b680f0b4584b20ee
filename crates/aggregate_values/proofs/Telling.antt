-- What is told of the values that have a property is one value.
use Rattle.std.proofs.Common.{◌≡◌, List, subst}
use Rattle.sd_value.specs.Ascending.{ListsExactly}
use Rattle.sd_value.specs.AscendingLaws.{one_list, listed_as}
use Rattle.sd_value.specs.Order.{value_cmp}
use Rattle.sd_value.specs.OrderLaws.{value_cmp-total}
use Rattle.sd_value.specs.declared.Value.{Value}
use Rattle.query_spec.specs.Query.{Aggregate}
use Rattle.site_spec.specs.Site.{IsToldOf}
use Rattle.site_spec.proofs.Sums.{told_once}
use Rattle.aggregate_values.specs.Told.{TellsOf}

pub told_same : (a : Aggregate) (parts : List Value) (v w : Value) → IsToldOf a parts v → IsToldOf a parts w → v ≡ w
told_same a parts v w h g = told_once a parts v w h.told g.told

-- of the same values the same is told
pub tells_as : (a : Aggregate) (P Q : Value → Type 0) (v : Value) → ((w : Value) → P w → Q w) → ((w : Value) → Q w → P w) → TellsOf a P v → TellsOf a Q v
tells_as a P Q v to from h = (h.0, listed_as h.1 to from, h.2)

-- of the values of this list
pub tells_list : (a : Aggregate) (P : Value → Type 0) (parts : List Value) (v : Value) → ListsExactly value_cmp P parts → TellsOf a P v → IsToldOf a parts v
tells_list a P parts v exact h = subst (λ (ps : List Value). IsToldOf a ps v) (one_list value_cmp-total P h.0 parts h.1 exact) h.2
