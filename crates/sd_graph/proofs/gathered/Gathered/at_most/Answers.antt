use Rattle.std.proofs.Common.{arith}
use Rattle.sd_graph.proofs.Gathering.{length-all_inserted}
use Rattle.sd_graph.proofs.gathered.Gathered.at_most.Goals as goal

pub returns-clause-bound : goal.returns-clause-bound
returns-clause-bound g c =
    let most = length-all_inserted g.K.Ord.cmp c.args.self.now.ordered.keys c.args.self.now.fresh.items in
    λ below. omega (arith, most, c.len.ensures.len, c.len-2.ensures, c.saturating_add.ensures, below)
