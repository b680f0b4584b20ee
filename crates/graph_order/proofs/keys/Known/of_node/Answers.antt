use Rattle.std.proofs.Common.{◌≡◌, ◌<◌, List, length, get_or, Option, IfOk, subst}
use Rattle.std.specs.declared.cmp.Ordering.TheVariants.{Equal}
use Rattle.sd_value.specs.Names.{Name}
use Rattle.sd_value.specs.Order.{bytes_cmp}
use Rattle.graph_spec.specs.DataGraph.{node}
use Rattle.edge_queries.specs.Listed.{placed-name}
use Rattle.graph_order.specs.Keys.{key_by}
use Rattle.sort_keys.specs.declared.key.Key.{Key}
use Rattle.graph_order.proofs.Ends.{found_at, not_missed}
use Rattle.graph_order.proofs.keys.Known.of_node.Goals as goal

pub returns-in-Ok : goal.returns-in-Ok
returns-in-Ok c =
    let k = c.args.self.now in
    let at = c.nodes.ensures.value in
    let key = found_at (λ (n : Name). key_by k.by_fold k.graph.now k.word.now (node n)) k.graph.now.nodes k.keys.items c.in-Ok.number c.args.name.now c.index.result.now
    (c.requires.known c.requires.labels)
    (subst (λ (ns : List Name). c.in-Ok.number < length ns) at c.in-Ok.ensures.bound)
    (subst (λ (ns : List Name). bytes_cmp (get_or ns c.in-Ok.number c.args.name.now) c.args.name.now ≡ Equal) at (c.in-Ok.ensures.ok c.args.name.now))
    c.index.ensures in
    subst (λ (z : Option Key). IfOk c.copied.result (λ x. x ≡ z)) key c.copied.ensures

pub returns-in-Err : goal.returns-in-Err
returns-in-Err c =
    let G = c.args.self.now.graph.now in
    let n = c.args.name.now in
    absurd (not_missed n c.nodes.result.now c.in-Err.field-0
    (c.in-Err.ensures.position (placed-name n c.nodes.result.now (rw c.nodes.ensures.value c.nodes.ensures.well_formed.nodes_ascend)))
    (rw c.nodes.ensures.value c.requires.declared))
