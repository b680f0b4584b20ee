use Rattle.std.proofs.Common.{◌≡◌, ◌+◌, drop}
use Rattle.counterexample_spec.specs.Frozen.{along, step}
use Rattle.refute_site.specs.Adding.{building_all}
use Rattle.refute_site.specs.Patterns.{copy_of}
use Rattle.refute_site.proofs.statements.add_along.Given as goal

abbrev pub invariant-loop-j : goal.invariant-loop-j
invariant-loop-j l =
    building_all (along (step (copy_of l.chain_copy) l.k) (l.j + 1) l.start (drop l.j l.word) l.to) l.builder
    ≡ building_all (along (step (copy_of l.chain_copy) l.k) 1 l.from l.word l.to) l.initial.builder
