use Rattle.std.proofs.Common.{take}
use Rattle.query_blocks.specs.Blocks.{scope_of}
use Rattle.site_spec.specs.Site.{SomeOf}
use Rattle.edit_touches.specs.Parts.{TouchesBlock}
use Rattle.edit_touches.proofs.some_block.Given as goal

abbrev pub invariant-loop-number : goal.invariant-loop-number
invariant-loop-number l = SomeOf (TouchesBlock l.edit (scope_of l.scopes)) (take l.number-index l.numbers) → ⊥
