use Rattle.std.proofs.Common.{ap, ◌∙◌}
use Rattle.sd_graph.specs.Gathered.{insert_all}
use Rattle.sd_graph.proofs.Gathering.{one_more}
use Rattle.sd_graph.proofs.gathered.Gathered.push.Goals as goal

pub returns : goal.returns
returns g c =
    ap (insert_all g.K.Ord.cmp c.args.self.now.ordered.keys) c.in_ok-insert.ensures.items
    ∙ one_more g.met.K.Ord.total g.met.K.ExactOrd.exact c.args.self.now.ordered.keys c.args.self.now.fresh.items c.place-at.result c.args.key c.requires
