use Rattle.std.proofs.Common.{take, map}
use Rattle.query_blocks.specs.Blocks.{body_of}
use Rattle.command_explain.specs.Explained.{AreExplained}
use Rattle.command_explain.proofs.plans.plans_text.Given as goal

abbrev pub invariant-loop-i : goal.invariant-loop-i
invariant-loop-i g l = AreExplained (g.S.Store.graph l.store) l.checked.version (take l.i l.paths.items) (map body_of (take l.i l.blocks.items)) l.out.items
