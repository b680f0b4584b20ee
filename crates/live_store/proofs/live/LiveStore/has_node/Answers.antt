use Rattle.std.specs.Prelude.{◌↔◌, IsTrue, Contains, List}
use Rattle.std.proofs.Common.{◌∙◌, ap, sym, subst, inl, inr}
use Rattle.sd_value.specs.Order.{bytes_cmp}
use Rattle.sd_value.specs.OrderLaws.{bytes_cmp-total, bytes_cmp-exact}
use Rattle.graph_spec.specs.DataGraph.{DataGraph, Name}
use Rattle.sd_graph.specs.Statement.{Building}
use Rattle.live_store.proofs.ListLaws.{any_is}
use Rattle.live_store.proofs.Moves.{named}
use Rattle.live_store.proofs.live.LiveStore.has_node.Goals as goal

pub returns-then-base-clause-is : goal.returns-then-base-clause-is
returns-then-base-clause-is c =
    let same = c.nodes.ensures.value ∙ ap (λ (G : DataGraph). G.nodes) c.graph.ensures in
    let among = named c.self.inside.base c.self.inside.came c.self.inside.gone c.self.inside.nodes.keys _
    c.self.invariant.layers c.args.name.now in
    subst (λ (b : Building). IsTrue c.is_among-base.result ↔ Contains b.graph.nodes c.args.name.now) c.self.view_is (
      λ t. among.1 (inl (subst (λ (ns : List Name). Contains ns c.args.name.now) same (c.is_among-base.ensures.is.0 t))),
      λ q. c.if-base.true,
    )

pub returns-else-base-clause-is : goal.returns-else-base-clause-is
returns-else-base-clause-is c =
    let same = c.nodes.ensures.value ∙ ap (λ (G : DataGraph). G.nodes) c.graph.ensures in
    let among = named c.self.inside.base c.self.inside.came c.self.inside.gone c.self.inside.nodes.keys _
    c.self.invariant.layers c.args.name.now in
    let there = any_is bytes_cmp bytes_cmp-total bytes_cmp-exact c.args.name.now c.self.inside.nodes.keys in
    subst (λ (b : Building). IsTrue c.contains.result ↔ Contains b.graph.nodes c.args.name.now) c.self.view_is (
      λ t. among.1 (inr (there.0 (sym c.contains.ensures ∙ t))),
      λ q. elim (among.0 q) [
        | inl b ↦ (let t = c.is_among-base.ensures.is.1 (subst (λ (ns : List Name). Contains ns c.args.name.now) (sym same) b) in
            let f = c.if-base.false in cc)
        | inr m ↦ c.contains.ensures ∙ there.1 m
      ],
    )
