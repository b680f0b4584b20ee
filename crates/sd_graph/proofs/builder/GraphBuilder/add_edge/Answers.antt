use Rattle.std.proofs.Common.{◌≡◌, ◌≤◌, ◌+◌, Ok, arith, ap, length, refl, sym, ◌∙◌, false}
use Rattle.std.specs.Result.{is_err}
use Rattle.graph_spec.specs.Orders.{edge_cmp, member_cmp}
use Rattle.sd_graph.specs.Gathered.{elements}
use Rattle.sd_graph.specs.Statement.{Building, an_edge, with_name, with_end, with_edge, Fits, IsWithin, building_with}
use Rattle.sd_graph.specs.Built.{IsBuilt-from_added, same_building, at_ok, fits_at_ok}
use Rattle.sd_graph.proofs.builder.GraphBuilder.add_edge.Goals as goal

pub invariant_of-self-else-is_err : goal.invariant_of-self-else-is_err
invariant_of-self-else-is_err c =
    let before : Building = record { limits = c.self.inside.limits; graph = record { nodes = c.self.inside.nodes; edges = elements edge_cmp c.self.inside.edges; members = elements member_cmp c.self.inside.members } } in
    let ok : is_err c.put-result.result ≡ false = sym c.is_err.ensures.value ∙ c.if-is_err.false in
    let names : c.declare_ends.new.names ≡ with_end c.args.to.now (with_name c.args.from.now c.self.inside.nodes) = c.in_ok-added.ensures.names in
    let put : elements edge_cmp c.put-result.new.set ≡ with_edge c.in_ok-edge.edge (elements edge_cmp c.self.inside.edges) = at_ok c.put-result.result _ _ _ ok c.put-result.ensures.keys in
    let keys : elements edge_cmp c.put-result.new.set ≡ with_edge (record { from = c.args.from.now; label = c.args.label.now; to = c.args.to.now }) (elements edge_cmp c.self.inside.edges) = put ∙ ap (λ x. with_edge x (elements edge_cmp c.self.inside.edges)) c.in_ok-edge.ensures in
    let fits : Fits c.self.inside.limits c.len.result (length (with_edge c.in_ok-edge.edge (elements edge_cmp c.self.inside.edges)) + length (elements member_cmp c.self.inside.members)) c.put-result.result = c.put-result.ensures.fits in
    let room : (c.len.result ≤ c.self.inside.limits.nodes) × (length (with_edge c.in_ok-edge.edge (elements edge_cmp c.self.inside.edges)) + length (elements member_cmp c.self.inside.members) ≤ c.self.inside.limits.edges) = fits_at_ok _ _ _ c.put-result.result ok fits in
    let within : IsWithin (building_with (an_edge c.args.from.now c.args.label.now c.args.to.now) before) =
    (omega (arith, ap length names, c.len.ensures.len, room.0), omega (arith, ap length put, ap length keys, room.1)) in
    (IsBuilt-from_added (an_edge c.args.from.now c.args.label.now c.args.to.now) before _ (Ok tt) c.requires (same_building _ _ refl names keys c.put-result.ensures.others, within) c.self.invariant.0, c.self.invariant.1)
