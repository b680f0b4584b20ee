use Rattle.std.specs.Prelude.{◌≡◌, ◌↔◌, IsTrue, Contains}
use Rattle.std.specs.Option.{option_copied}
use Rattle.std.proofs.Common.{◌∙◌, ap, sym, subst, inl, inr}
use Rattle.sd_value.specs.declared.Value.{Value}
use Rattle.sd_value.specs.Order.{bytes_cmp}
use Rattle.sd_value.specs.OrderLaws.{bytes_cmp-total, bytes_cmp-exact}
use Rattle.graph_spec.specs.DataGraph.{node, IsValueOf}
use Rattle.sd_graph.specs.Statement.{Building}
use Rattle.index_store.specs.Indexed.{IsNodeOf as IsOneOf}
use Rattle.live_layers.proofs.GroupLaws.{name_is}
use Rattle.live_store.proofs.ListLaws.{any_is}
use Rattle.live_store.proofs.Moves.{named}
use Rattle.live_store.proofs.live.LiveStore.is_node.Goals as goal

pub returns-then-is_value-clause-is : goal.returns-then-is_value-clause-is
returns-then-is_value-clause-is c =
    let is : c.args.value.now ≡ node c.in-Some.name.now = name_is c.args.value.now c.in-Some.name.now
    (sym c.node_of.ensures ∙ ap option_copied c.in-Some.is) in
    let among = named c.self.inside.base c.self.inside.came c.self.inside.gone c.self.inside.nodes.keys _
    c.self.invariant.layers c.in-Some.name.now in
    subst (λ (v : Value). IsTrue c.is_value.result ↔ IsOneOf c.args.self.now.graph.nodes v) (sym is)
    (subst (λ (b : Building). IsTrue c.is_value.result ↔ Contains b.graph.nodes c.in-Some.name.now) c.self.view_is (
      λ t. among.1 (inl (subst (λ (v : Value). IsValueOf c.self.inside.base v) is (c.is_value.ensures.0 t))),
      λ q. c.if-is_value.true,
    ))

pub returns-else-is_value-clause-is : goal.returns-else-is_value-clause-is
returns-else-is_value-clause-is c =
    let is : c.args.value.now ≡ node c.in-Some.name.now = name_is c.args.value.now c.in-Some.name.now
    (sym c.node_of.ensures ∙ ap option_copied c.in-Some.is) in
    let among = named c.self.inside.base c.self.inside.came c.self.inside.gone c.self.inside.nodes.keys _
    c.self.invariant.layers c.in-Some.name.now in
    let there = any_is bytes_cmp bytes_cmp-total bytes_cmp-exact c.in-Some.name.now c.self.inside.nodes.keys in
    subst (λ (v : Value). IsTrue c.contains.result ↔ IsOneOf c.args.self.now.graph.nodes v) (sym is)
    (subst (λ (b : Building). IsTrue c.contains.result ↔ Contains b.graph.nodes c.in-Some.name.now) c.self.view_is (
      λ t. among.1 (inr (there.0 (sym c.contains.ensures ∙ t))),
      λ q. elim (among.0 q) [
        | inl b ↦ (let t = c.is_value.ensures.1 (subst (λ (v : Value). IsValueOf c.self.inside.base v) (sym is) b) in
            let f = c.if-is_value.false in cc)
        | inr m ↦ c.contains.ensures ∙ there.1 m
      ],
    ))
