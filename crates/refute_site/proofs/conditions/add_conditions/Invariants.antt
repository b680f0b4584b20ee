use Rattle.std.proofs.Common.{◌≡◌, take}
use Rattle.std.specs.Prelude.{map}
use Rattle.query_spec.specs.Rows.{value_in}
use Rattle.struql_ast.specs.Reading.{condition_of}
use Rattle.counterexample_spec.specs.Frozen.{all_asked}
use Rattle.refute_site.specs.Adding.{building_all}
use Rattle.refute_site.specs.Patterns.{copy_of}
use Rattle.refute_site.proofs.conditions.add_conditions.Given as goal

abbrev pub invariant-loop-k : goal.invariant-loop-k
invariant-loop-k l =
    l.builder
    ≡ building_all (all_asked (value_in l.pattern.chain.now.variables l.values) (copy_of l.pattern.copy) l.pattern.repeats 0 (map condition_of (take l.k l.conditions))) l.initial.builder
