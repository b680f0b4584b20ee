use Rattle.sd_graph.proofs.CopiedLists.{copied_more}
use Rattle.sd_graph.proofs.gathered.copied.Goals as goal

pub loop-key-preserved : goal.loop-key-preserved
loop-key-preserved g c =
    copied_more g.met.K.Ord.total c.loop-key.copied.keys c.insert.new.self.keys c.in-Some.key.now c.in_ok-copied.field-0 c.loop-key.key-iterator c.next.new.self c.args.set.now.keys c.iter-key-items.ensures.ordered
    c.loop-key.invariant c.in-Some.ensures.steps c.in_ok-copied.ensures c.in_ok-insert.ensures.keys
