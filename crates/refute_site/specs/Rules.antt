-- The rules by which a condition gives a variable a value.
use Rattle.std.specs.Prelude.{Option}
use Rattle.sd_value.specs.declared.Value.{Value}
use Rattle.sd_value.specs.Names.{Name}
use Rattle.query_spec.specs.Query.{Condition}
use Rattle.query_spec.specs.Holds.{Assignment}
use Rattle.counterexample_spec.specs.Values.{equal_to_earlier, equal_to_constant, first_of_list}
use Rattle.refute_site.specs.declared.given.Rule.{Rule}
use Rattle.refute_site.specs.declared.given.Rule.TheVariants.{Earlier, Constant, List}

-- what the condition gives the variable by the rule
abbrev pub given_by : Rule → Assignment → Name → Condition → Option Value
given_by Earlier s x c = equal_to_earlier s x c
given_by Constant s x c = equal_to_constant x c
given_by List s x c = first_of_list x c
