use Rattle.std.proofs.Common.{sym, ◌∙◌, ap}
use Rattle.std.specs.BTreeMap.{is_at}
use Rattle.std.specs.Set.{remove_key}
use Rattle.sd_value.specs.Order.{bytes_cmp}
use Rattle.sd_value.specs.OrderLaws.{bytes_cmp-total, bytes_cmp-exact}
use Rattle.sd_graph.specs.Undone.{without}
use Rattle.sd_graph.proofs.Taken.{in_order-removed}
use Rattle.sd_graph.proofs.names.Names.forget.Goals as goal

pub returns-then-added : goal.returns-then-added
returns-then-added c =
    in_order-removed bytes_cmp-total bytes_cmp-exact c.args.name.now c.self.inside.set.keys c.swap_remove.new.self.keys c.swap_remove.ensures.updates.0
    ∙ ap (remove_key (is_at (bytes_cmp c.args.name.now))) c.self.view_is ∙ ap (λ added. without c.args.name.now added c.args.self.now) (sym c.if-added.true)
