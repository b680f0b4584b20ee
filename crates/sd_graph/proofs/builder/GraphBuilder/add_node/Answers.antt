use Rattle.std.proofs.Common.{◌≡◌, ◌≤◌, Ok, arith, ap, length, refl}
use Rattle.graph_spec.specs.Orders.{edge_cmp, member_cmp}
use Rattle.sd_graph.specs.Gathered.{elements}
use Rattle.sd_graph.specs.Statement.{Building, a_node, with_name}
use Rattle.sd_graph.specs.Built.{IsBuilt-from_added, same_building}
use Rattle.sd_graph.proofs.builder.GraphBuilder.add_node.Goals as goal

pub invariant_of-self-else-len-self : goal.invariant_of-self-else-len-self
invariant_of-self-else-len-self c =
    let before : Building = record { limits = c.self.inside.limits; graph = record { nodes = c.self.inside.nodes; edges = elements edge_cmp c.self.inside.edges; members = elements member_cmp c.self.inside.members } } in
    let names : c.begin.new.self ≡ with_name c.args.name.now c.self.inside.nodes = c.in_ok-added.ensures.names in
    let size : length (with_name c.args.name.now c.self.inside.nodes) ≤ c.self.inside.limits.nodes = omega (arith, ap length names, c.len.ensures.len, c.if-len-self.false) in
    (IsBuilt-from_added (a_node c.args.name.now) before _ (Ok tt) tt (same_building _ _ refl names refl refl, (size, c.self.invariant.0.within.1)) c.self.invariant.0, c.self.invariant.1)
