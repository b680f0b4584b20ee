use Rattle.std.proofs.Common.{◌≡◌, subst, List}
use Rattle.std.specs.Prelude.{Contains}
use Rattle.std.specs.Option.{option_copied}
use Rattle.sd_value.specs.Order.{value_cmp}
use Rattle.sd_value.specs.Ascending.{ListsExactly}
use Rattle.graph_spec.specs.declared.Edge.{Edge}
use Rattle.graph_spec.specs.Orders.{edge_cmp}
use Rattle.live_layers.specs.Grouped.{elements}
use Rattle.live_layers.proofs.GroupLaws.{group_lists}
use Rattle.live_layers.proofs.edges.Edges.to.Goals as goal

pub returns : goal.returns
returns c = subst (λ (es : List Edge). ListsExactly edge_cmp (λ (e : Edge). Contains es e × (e.to ≡ c.args.to.now))
    (elements (option_copied c.at.result))) c.self.view_is
    (group_lists value_cmp edge_cmp (λ (e : Edge). e.to) c.self.inside.all.keys c.self.inside.orders.by_end c.args.to.now
    (λ (e : Edge). Contains c.self.inside.all.keys e × (e.to ≡ c.args.to.now)) c.at.result c.self.invariant.by_end
    c.at.ensures.ascend c.at.ensures.some c.at.ensures.none (λ e m is. (m, is)) (λ e h. h))
