use Rattle.std.proofs.Common.{◌≡◌, subst, List}
use Rattle.std.specs.Prelude.{Contains}
use Rattle.std.specs.Option.{option_copied}
use Rattle.sd_value.specs.Order.{bytes_cmp}
use Rattle.sd_value.specs.Ascending.{ListsExactly}
use Rattle.graph_spec.specs.declared.Edge.{Edge}
use Rattle.graph_spec.specs.Orders.{edge_cmp}
use Rattle.live_layers.specs.Grouped.{elements}
use Rattle.live_layers.proofs.GroupLaws.{group_lists}
use Rattle.live_layers.proofs.edges.Edges.labelled.Goals as goal

pub returns : goal.returns
returns c = subst (λ (es : List Edge). ListsExactly edge_cmp (λ (e : Edge). Contains es e × (e.label ≡ c.args.label.now))
    (elements (option_copied c.at.result))) c.self.view_is
    (group_lists bytes_cmp edge_cmp (λ (e : Edge). e.label) c.self.inside.all.keys c.self.inside.orders.by_label c.args.label.now
    (λ (e : Edge). Contains c.self.inside.all.keys e × (e.label ≡ c.args.label.now)) c.at.result c.self.invariant.by_label
    c.at.ensures.ascend c.at.ensures.some c.at.ensures.none (λ e m is. (m, is)) (λ e h. h))
