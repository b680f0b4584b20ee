-- What an aggregate tells of what it looks at.
use Rattle.std.specs.Prelude.{List}
use Rattle.sd_value.specs.Ascending.{ListsExactly}
use Rattle.sd_value.specs.Order.{value_cmp}
use Rattle.sd_value.specs.declared.Value.{Value}
use Rattle.query_spec.specs.Query.{Aggregate}
use Rattle.site_spec.specs.Site.{IsToldOf}

-- v is told of the ascending list of all that has P
abbrev pub TellsOf : Aggregate → (Value → Type 0) → Value → Type 0
TellsOf a P v = (parts : List Value) × ListsExactly value_cmp P parts × IsToldOf a parts v
