use Rattle.std.proofs.Common.{take}
use Rattle.tmpl.specs.Body.{body_of}
use Rattle.tmpl.specs.Expressions.{uses, AddsUses}
use Rattle.tmpl.proofs.uses.+push_uses.Given as goal

abbrev pub invariant-push_uses-loop-part : goal.invariant-push_uses-loop-part
invariant-push_uses-loop-part l = AddsUses l.initial.found.items l.found.items (uses (body_of (take l.part-index l.parts)))
