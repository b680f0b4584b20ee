use Rattle.std.proofs.Common.{ap, ◌∙◌, ◌≡◌, refl, subst, sym, List, ℕ, false, true}
use Rattle.std.proofs.lemmas.Bool.{ltb-true, lt-ltb}
use Rattle.graph_spec.specs.DataGraph.{DataGraph, Name, IsValueOf, IsWellFormed}
use Rattle.index_store.specs.Indexed.{IsNodeOf, IsAt}
use Rattle.index_store.proofs.LookLaws.{found_value}
use Rattle.index_store.proofs.ValueLaws.{node_is_value, reached_values}
use Rattle.index_store.proofs.IndexStoreStore.is_value.Goals as goal

pub returns-in-Some : goal.returns-in-Some
returns-in-Some c =
    let s = c.self.inside in
    let at = subst (λ (vs : List ℕ). IsAt s.graph vs c.args.value.now c.in-Some.field-0) c.as_slice-values.ensures.value c.in-Some.ensures in (
      λ _. subst (λ (G : DataGraph). IsValueOf G c.args.value.now) c.self.view_is
          (found_value s.graph s.values.items s.labels.items c.self.invariant.stored c.args.value.now c.in-Some.field-0 at),
      λ _. refl,
    )

pub returns-else-is_node : goal.returns-else-is_node
returns-else-is_node c =
    let well = subst IsWellFormed c.self.view_is c.nodes.ensures.well_formed in
    let same : c.nodes.result.now ≡ c.args.self.now.nodes = c.nodes.ensures.value ∙ ap (λ (G : DataGraph). G.nodes) c.self.view_is in
    let reached = reached_values c.args.self.now well c.args.value.now
    (λ h. let wrong : false ≡ true = c.if-is_node.ensures.1 (subst (λ (ns : List Name). IsNodeOf ns c.args.value.now) (sym same) h) in cc)
    c.degree_incoming.result c.degree_incoming.ensures in
    (λ yes. reached.0 (ltb-true 0 c.degree_incoming.result yes), λ is. lt-ltb 0 c.degree_incoming.result (reached.1 is))

pub returns-then-is_node : goal.returns-then-is_node
returns-then-is_node c =
    let same : c.nodes.result.now ≡ c.args.self.now.nodes = c.nodes.ensures.value ∙ ap (λ (G : DataGraph). G.nodes) c.self.view_is in
    (λ yes. node_is_value c.args.self.now c.args.value.now (subst (λ (ns : List Name). IsNodeOf ns c.args.value.now) same (c.is_node.ensures.0 yes)), λ _. c.if-is_node.true)
