use Rattle.std.proofs.Common.{◌≡◌, ◌∙◌, List, map, IfOk, subst, ap}
use Rattle.std.specs.Prelude.{Contains}
use Rattle.sd_value.specs.Ascending.{ListsExactly}
use Rattle.sd_value.specs.Names.{Name}
use Rattle.order_spec.specs.Order.{nodes_in}
use Rattle.graph_order.specs.Keys.{ranked_by, ranked_cmp}
use Rattle.order_spec.specs.Read.{order_of}
use Rattle.graph_order.specs.declared.members.Ranked.{Ranked}
use Rattle.graph_order.proofs.Ranks.{rank, in_order_made}
use Rattle.graph_order.proofs.members.members_in_order.Goals as goal

pub returns : goal.returns
returns c =
    let G = c.args.graph.now in
    let o = order_of c.args.order.now in
    let fold = c.in_ok-known.ensures.fold in
    let graph = c.in_ok-known.ensures.graph in
    let word = c.in_ok-known.ensures.word ∙ c.as_slice.ensures.value in
    let all : c.in_ok-members.members.items ≡ map (rank G o) (nodes_in G o.collection) =
    c.in_ok-members.ensures ∙ (λ i. map (ranked_by o.descend (fold i) (graph i) (word i)) (nodes_in (graph i) o.collection)) in
    let made = in_order_made G o c.sort_and_dedup.new.items.items
    (subst (λ (rs : List Ranked). ListsExactly ranked_cmp (Contains rs) c.sort_and_dedup.new.items.items) all c.sort_and_dedup.ensures) in
    subst (λ (z : List Name). IfOk c.names_of.result (λ ns. ns.items ≡ z))
    (ap (map (λ (r : Ranked). r.node)) c.as_slice-2.ensures.value ∙ made) c.names_of.ensures
