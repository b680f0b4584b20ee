use Rattle.std.proofs.Common.{◌≡◌, ◌≤◌, ◌+◌, Ok, arith, ap, length, refl, sym, ◌∙◌, false}
use Rattle.std.specs.Result.{is_err}
use Rattle.graph_spec.specs.Orders.{edge_cmp, member_cmp}
use Rattle.sd_graph.specs.Gathered.{elements}
use Rattle.sd_graph.specs.Statement.{Building, a_member, with_name, with_member, Fits, IsWithin, building_with}
use Rattle.sd_graph.specs.Built.{IsBuilt-from_added, same_building, at_ok, fits_at_ok}
use Rattle.sd_graph.proofs.builder.GraphBuilder.add_member.Goals as goal

pub invariant_of-self-else-is_err : goal.invariant_of-self-else-is_err
invariant_of-self-else-is_err c =
    let before : Building = record { limits = c.self.inside.limits; graph = record { nodes = c.self.inside.nodes; edges = elements edge_cmp c.self.inside.edges; members = elements member_cmp c.self.inside.members } } in
    let ok : is_err c.put-result.result ≡ false = sym c.is_err.ensures.value ∙ c.if-is_err.false in
    let names : c.begin.new.self ≡ with_name c.args.node.now c.self.inside.nodes = c.in_ok-added.ensures.names in
    let put : elements member_cmp c.put-result.new.set ≡ with_member c.in_ok-member.member (elements member_cmp c.self.inside.members) = at_ok c.put-result.result _ _ _ ok c.put-result.ensures.keys in
    let keys : elements member_cmp c.put-result.new.set ≡ with_member (record { collection = c.args.collection.now; node = c.args.node.now }) (elements member_cmp c.self.inside.members) = put ∙ ap (λ x. with_member x (elements member_cmp c.self.inside.members)) c.in_ok-member.ensures in
    let fits : Fits c.self.inside.limits c.len.result (length (with_member c.in_ok-member.member (elements member_cmp c.self.inside.members)) + length (elements edge_cmp c.self.inside.edges)) c.put-result.result = c.put-result.ensures.fits in
    let room : (c.len.result ≤ c.self.inside.limits.nodes) × (length (with_member c.in_ok-member.member (elements member_cmp c.self.inside.members)) + length (elements edge_cmp c.self.inside.edges) ≤ c.self.inside.limits.edges) = fits_at_ok _ _ _ c.put-result.result ok fits in
    let within : IsWithin (building_with (a_member c.args.collection.now c.args.node.now) before) =
    (omega (arith, ap length names, c.len.ensures.len, room.0), omega (arith, ap length put, ap length keys, room.1)) in
    (IsBuilt-from_added (a_member c.args.collection.now c.args.node.now) before _ (Ok tt) tt (same_building _ _ refl names c.put-result.ensures.others keys, within) c.self.invariant.0, c.self.invariant.1)
