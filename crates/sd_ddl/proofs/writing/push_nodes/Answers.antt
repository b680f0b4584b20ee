use Rattle.std.proofs.Common.{◌≡◌, ◌<◌, ◌-◌, refl, take, arith, ap, ◌∙◌, subst, drop, get_or, length, rules}
use Rattle.std.specs.List.{prefix_len}
use Rattle.graph_spec.specs.declared.Edge.{Edge}
use Rattle.sd_ddl.specs.Groups.{start_is, node_is, node_in}
use Rattle.sd_ddl.specs.Written.{node_text}
use Rattle.sd_ddl.proofs.Counted.{from_place, within}
use Rattle.sd_ddl.proofs.Objects.{own_object, one_more_written}
use Rattle.sd_ddl.proofs.StartLaws.{edges_rise}
use Rattle.sd_ddl.proofs.Walked.{step, all_left}
use Rattle.sd_ddl.proofs.writing.push_nodes.Goals as goal

pub loop-node-init : goal.loop-node-init
loop-node-init c =
    let G = c.args.graph.now in
    let formed = c.nodes-node-items.ensures.well_formed in
    record {
      written = search rules;
      edges_within = omega arith;
      members_within = omega arith;
      edges = all_left (λ (e : Edge). e.from) G.nodes G.edges formed.nodes_ascend (edges_rise G.edges formed.edges_ascend) formed.starts_are_nodes;
      members = all_left node_in G.nodes c.args.sorted.now formed.nodes_ascend c.requires.rises (λ m h. formed.members_are_nodes m.now (c.requires.members_in m h));
    }

pub loop-node-preserved : goal.loop-node-preserved
loop-node-preserved c =
    let G = c.args.graph.now in
    let n = c.node-item.result in
    let i = c.loop-node.node-index in
    let k = c.edges_at-own_edges.result in
    let j = c.members_at-own_members.result in
    let lt : i < length G.nodes = subst (λ ns. i < length ns) c.nodes-node-items.ensures.value c.loop-node-test.true in
    let at : n ≡ get_or G.nodes i n = subst (λ ns. n ≡ get_or ns i n) c.nodes-node-items.ensures.value c.node-item.is in
    let edges : take (length c.edges.result.now - c.loop-node.edges_done) (drop c.loop-node.edges_done c.edges.result.now) ≡ drop c.loop-node.edges_done G.edges =
    from_place G.edges c.edges.result.now c.loop-node.edges_done c.edges.ensures.value in
    let members = from_place c.args.sorted.now c.args.sorted.now c.loop-node.members_done refl in
    let starts : k ≡ prefix_len (start_is n) (drop c.loop-node.edges_done G.edges) = c.edges_at-own_edges.ensures ∙ ap (prefix_len (start_is n)) edges in
    let nodes : j ≡ prefix_len (node_is n) (drop c.loop-node.members_done c.args.sorted.now) = c.members_at-own_members.ensures ∙ ap (prefix_len (node_is n)) members in
    let e = step (λ (e : Edge). e.from) G.nodes i n G.edges c.loop-node.edges_done k lt at c.loop-node.invariant.edges starts in
    let m = step node_in G.nodes i n c.args.sorted.now c.loop-node.members_done j lt at c.loop-node.invariant.members nodes in
    record {
      written = one_more_written (node_text G) G.nodes i n c.args.out.now.items c.loop-node.out.items c.push_object.new.out.items _ lt at c.loop-node.invariant.written c.in_ok-push_object.ensures
          (own_object G c.args.sorted.now n _ _ c.requires (ap (take j) members ∙ m.0) (ap (take k) edges ∙ e.0));
      edges_within = within (start_is n) G.edges c.loop-node.edges_done k c.loop-node.invariant.edges_within starts;
      members_within = within (node_is n) c.args.sorted.now c.loop-node.members_done j c.loop-node.invariant.members_within nodes;
      edges = e.1;
      members = m.1;
    }
