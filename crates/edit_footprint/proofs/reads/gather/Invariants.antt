use Rattle.std.proofs.Common.{take, map}
use Rattle.tmpl.specs.Expressions.{use_of}
use Rattle.edit_footprint.specs.Gathered.{AddsUses}
use Rattle.edit_footprint.proofs.reads.gather.Given as goal

abbrev pub invariant-loop-x : goal.invariant-loop-x
invariant-loop-x l = AddsUses l.initial.reads l.reads (map use_of (take l.x-index l.uses))
