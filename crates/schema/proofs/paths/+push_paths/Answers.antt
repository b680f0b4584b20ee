use Rattle.std.proofs.Common.{arith}
use Rattle.schema.proofs.PathLists.{paths_more}
use Rattle.schema.proofs.paths.+push_paths.Goals as goal

pub loop-i-preserved : goal.loop-i-preserved
loop-i-preserved t c =
    paths_more c.args.front.now c.args.blocks.now c.loop-i.i c.index-blocks-i.result c.args.found.now.items c.loop-i.found.items c.push.new.self.items c.push_paths.new.found.items
    c.in_ok-path.path c.in_ok-within.within.items c.deref.result.now c.deref-in-loop-i.result.now (omega arith) c.index-blocks-i.is c.loop-i.invariant c.in_ok-path.ensures c.in_ok-within.ensures c.deref.ensures.value c.deref-in-loop-i.ensures.value c.in_ok-push.ensures.items c.in_ok-push_paths.ensures
