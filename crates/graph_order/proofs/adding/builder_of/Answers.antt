use Rattle.std.proofs.Common.{◌≡◌, List, map, Err, ap, ◌∙◌, subst}
use Rattle.std.specs.Prelude.{Contains}
use Rattle.std.proofs.lemmas.Result.{err_from_is_err_and}
use Rattle.sd_value.specs.Names.{Name}
use Rattle.graph_spec.specs.Statement.{a_node}
use Rattle.graph_spec.specs.declared.Edge.{Edge}
use Rattle.graph_spec.specs.declared.Member.{Member}
use Rattle.graph_order.specs.Adding.{building_of, PutsIn, stated_edge, stated_member}
use Rattle.graph_order.proofs.Copies.{with_nodes, with_edges, nodes_put, edges_put, members_put, plain_end}
use Rattle.graph_order.proofs.Whole.{nodes_refused, edges_refused, members_refused}
use Rattle.graph_order.proofs.adding.builder_of.Goals as goal

pub returns-in_err-add_nodes-clause-copy : goal.returns-in_err-add_nodes-clause-copy
returns-in_err-add_nodes-clause-copy c =
    let p = err_from_is_err_and c.from_residual.result c.from_residual.ensures.1 in
    rw (p.1, p.2)
    (nodes_refused c.args.limits c.args.graph.now c.nodes.ensures.well_formed c.requires.fits c.new-builder.result c.add_nodes.new.builder
    c.new-builder.ensures.limits c.new-builder.ensures.empty c.in_err-add_nodes.field-0.0
    (subst (λ (ns : List Name). PutsIn (map a_node ns) c.new-builder.result c.add_nodes.new.builder (Err c.in_err-add_nodes.field-0.0))
    c.nodes.ensures.value c.in_err-add_nodes.ensures))

pub add_edges-requires : goal.add_edges-requires
add_edges-requires c = λ e h.
    plain_end c.args.graph.now e.to (c.edges.ensures.well_formed.ends_are_data e (subst (λ (es : List Edge). Contains es e) c.edges.ensures.value h))

pub returns-in_err-add_edges-clause-copy : goal.returns-in_err-add_edges-clause-copy
returns-in_err-add_edges-clause-copy c =
    let w = c.nodes.ensures.well_formed in
    let p = err_from_is_err_and c.from_residual-in_err-add_edges.result c.from_residual-in_err-add_edges.ensures.1 in
    let one : c.add_nodes.new.builder ≡ with_nodes c.args.limits c.args.graph.now w =
    c.in_ok-add_nodes.ensures ∙ ap (λ (ns : List Name). building_of c.new-builder.result (map a_node ns)) c.nodes.ensures.value
    ∙ nodes_put c.args.limits c.args.graph.now w c.new-builder.result c.new-builder.ensures.limits c.new-builder.ensures.empty in
    rw (p.1, p.2)
    (edges_refused c.args.limits c.args.graph.now w c.requires.fits c.add_nodes.new.builder c.add_edges.new.builder one
    c.in_err-add_edges.field-0.0
    (subst (λ (es : List Edge). PutsIn (map stated_edge es) c.add_nodes.new.builder c.add_edges.new.builder (Err c.in_err-add_edges.field-0.0))
    c.edges.ensures.value c.in_err-add_edges.ensures))

pub returns-in_err-add_members-clause-copy : goal.returns-in_err-add_members-clause-copy
returns-in_err-add_members-clause-copy c =
    let w = c.nodes.ensures.well_formed in
    let p = err_from_is_err_and c.from_residual-in_err-add_members.result c.from_residual-in_err-add_members.ensures.1 in
    let one : c.add_nodes.new.builder ≡ with_nodes c.args.limits c.args.graph.now w =
    c.in_ok-add_nodes.ensures ∙ ap (λ (ns : List Name). building_of c.new-builder.result (map a_node ns)) c.nodes.ensures.value
    ∙ nodes_put c.args.limits c.args.graph.now w c.new-builder.result c.new-builder.ensures.limits c.new-builder.ensures.empty in
    let two : c.add_edges.new.builder ≡ with_edges c.args.limits c.args.graph.now w =
    c.in_ok-add_edges.ensures ∙ ap (λ (es : List Edge). building_of c.add_nodes.new.builder (map stated_edge es)) c.edges.ensures.value
    ∙ ap (λ z. building_of z (map stated_edge c.args.graph.now.edges)) one ∙ edges_put c.args.limits c.args.graph.now w in
    rw (p.1, p.2)
    (members_refused c.args.limits c.args.graph.now w c.requires.fits c.add_edges.new.builder c.add_members.new.builder two
    c.in_err-add_members.field-0.0
    (subst (λ (ms : List Member). PutsIn (map stated_member ms) c.add_edges.new.builder c.add_members.new.builder (Err c.in_err-add_members.field-0.0))
    c.member_pairs.ensures.value c.in_err-add_members.ensures))

pub returns-clause-copy : goal.returns-clause-copy
returns-clause-copy c =
    let w = c.nodes.ensures.well_formed in
    let one : c.add_nodes.new.builder ≡ with_nodes c.args.limits c.args.graph.now w =
    c.in_ok-add_nodes.ensures ∙ ap (λ (ns : List Name). building_of c.new-builder.result (map a_node ns)) c.nodes.ensures.value
    ∙ nodes_put c.args.limits c.args.graph.now w c.new-builder.result c.new-builder.ensures.limits c.new-builder.ensures.empty in
    let two : c.add_edges.new.builder ≡ with_edges c.args.limits c.args.graph.now w =
    c.in_ok-add_edges.ensures ∙ ap (λ (es : List Edge). building_of c.add_nodes.new.builder (map stated_edge es)) c.edges.ensures.value
    ∙ ap (λ z. building_of z (map stated_edge c.args.graph.now.edges)) one ∙ edges_put c.args.limits c.args.graph.now w in
    c.in_ok-add_members.ensures ∙ ap (λ (ms : List Member). building_of c.add_edges.new.builder (map stated_member ms)) c.member_pairs.ensures.value
    ∙ ap (λ z. building_of z (map stated_member c.args.graph.now.members)) two ∙ members_put c.args.limits c.args.graph.now w
