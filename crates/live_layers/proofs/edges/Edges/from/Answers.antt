use Rattle.std.proofs.Common.{◌≡◌, ◌∙◌, ap, sym, subst, refl, List, [], Some, None}
use Rattle.std.specs.Prelude.{Contains}
use Rattle.std.specs.Option.{option_copied}
use Rattle.sd_value.specs.declared.Value.{Value}
use Rattle.sd_value.specs.Order.{bytes_cmp}
use Rattle.sd_value.specs.Ascending.{ListsExactly}
use Rattle.sd_value.specs.AscendingLaws.{lists_nothing}
use Rattle.graph_spec.specs.declared.Edge.{Edge}
use Rattle.graph_spec.specs.DataGraph.{node}
use Rattle.graph_spec.specs.Orders.{edge_cmp}
use Rattle.live_layers.specs.Grouped.{elements, node_name}
use Rattle.live_layers.proofs.GroupLaws.{group_lists, same_node, name_is}
use Rattle.live_layers.proofs.edges.Edges.from.Goals as goal

pub returns-in-Some : goal.returns-in-Some
returns-in-Some c =
    let is = name_is c.args.from.now c.in-Some.name.now
    (sym c.start_of.ensures ∙ ap option_copied c.in-Some.is) in
    subst (λ (es : List Edge). ListsExactly edge_cmp (λ (e : Edge). Contains es e × (node e.from ≡ c.args.from.now))
    (elements (option_copied c.at.result))) c.self.view_is
    (group_lists bytes_cmp edge_cmp (λ (e : Edge). e.from) c.self.inside.all.keys c.self.inside.orders.by_start
    c.in-Some.name.now (λ (e : Edge). Contains c.self.inside.all.keys e × (node e.from ≡ c.args.from.now)) c.at.result
    c.self.invariant.by_start c.at.ensures.ascend c.at.ensures.some c.at.ensures.none
    (λ e m same. (m, ap node same ∙ sym is)) (λ e h. (h.0, same_node (h.1 ∙ is))))

pub returns-in-None : goal.returns-in-None
returns-in-None c =
    let none : node_name c.args.from.now ≡ None = sym c.start_of.ensures ∙ ap option_copied c.in-None.is in
    lists_nothing edge_cmp (λ (e : Edge). Contains c.args.self.now e × (node e.from ≡ c.args.from.now))
    (λ e h. let named : node_name c.args.from.now ≡ Some e.from = subst (λ (v : Value). node_name v ≡ Some e.from) h.1 refl in cc)
