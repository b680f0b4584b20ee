use Rattle.std.proofs.Common.{◌≡◌, take}
use Rattle.std.specs.List.{flat_map}
use Rattle.counterexample_spec.specs.Frozen.{declared}
use Rattle.refute_site.specs.Adding.{building_all}
use Rattle.refute_site.proofs.statements.add_values.Given as goal

abbrev pub invariant-loop-value : goal.invariant-loop-value
invariant-loop-value l = l.builder ≡ building_all (flat_map declared (take l.value-index l.values)) l.initial.builder
