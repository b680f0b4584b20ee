use Rattle.std.proofs.Common.{sym, ◌∙◌}
use Rattle.sd_graph.proofs.Gathering.{inserted_as_listed, none_from_length}
use Rattle.sd_graph.proofs.gathered.Gathered.into_list.Goals as goal

pub returns-then-len-eq0 : goal.returns-then-len-eq0
returns-then-len-eq0 g c =
    let none = none_from_length c.args.self.ordered.keys (sym c.len.ensures.len ∙ c.if-len-eq0.true) in
    inserted_as_listed g.met.K.Ord.total g.met.K.ExactOrd.exact c.args.self.ordered.keys c.args.self.fresh.items c.in_ok-list.list.items none c.len.ensures.ordered c.in_ok-list.ensures
