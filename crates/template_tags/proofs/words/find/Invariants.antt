use Rattle.std.proofs.Common.{◌≡◌, drop, None}
use Rattle.template_tags.specs.Terminals.{find}
use Rattle.template_tags.proofs.words.find.Given as goal

abbrev pub invariant-loop-bound : goal.invariant-loop-bound
invariant-loop-bound l = find l.found (drop l.bound-index l.scope) l.name ≡ find None l.scope l.name
