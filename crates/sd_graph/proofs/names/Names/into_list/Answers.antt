use Rattle.std.proofs.Common.{◌∙◌, ap}
use Rattle.sd_value.specs.Order.{bytes_cmp}
use Rattle.sd_value.specs.OrderLaws.{bytes_cmp-total, bytes_cmp-exact}
use Rattle.sd_graph.specs.Gathered.{in_order}
use Rattle.sd_graph.proofs.ByHash.{in_order-sorted}
use Rattle.sd_graph.proofs.names.Names.into_list.Goals as goal

pub returns : goal.returns
returns c =
    in_order-sorted bytes_cmp-total bytes_cmp-exact c.in_ok-list.list.items c.sort.new.self.items c.sort.ensures.permutation c.in_ok-list.ensures.distinct c.in_ok-sort.ensures.sorted
    ∙ ap (in_order bytes_cmp) c.in_ok-list.ensures.same ∙ c.self.view_is
