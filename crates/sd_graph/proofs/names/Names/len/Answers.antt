use Rattle.std.proofs.Common.{sym, ◌∙◌, ap, length}
use Rattle.sd_value.specs.OrderLaws.{bytes_cmp-total, bytes_cmp-exact}
use Rattle.sd_graph.proofs.ByHash.{length-in_order}
use Rattle.sd_graph.proofs.names.Names.len.Goals as goal

pub returns-clause-len : goal.returns-clause-len
returns-clause-len c = c.len.ensures.len ∙ sym (length-in_order bytes_cmp-total bytes_cmp-exact c.self.inside.set.keys c.len.ensures.unique) ∙ ap length c.self.view_is
