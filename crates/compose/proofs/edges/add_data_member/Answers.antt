use Rattle.std.proofs.lemmas.Result.{err_from_is_err_and}
use Rattle.compose_spec.specs.Composed.{node_name}
use Rattle.compose.proofs.Sources.{member_at}
use Rattle.compose.proofs.edges.add_data_member.Goals as goal

pub returns-in_err-node : goal.returns-in_err-node
returns-in_err-node c =
    let p = err_from_is_err_and c.from_residual.result c.from_residual.ensures.1 in
    rw (p.1, p.2) tt

pub returns : goal.returns
returns c = member_at c.args.builder.now c.add_member.new.self c.add_member.result c.args.member.now.collection
    c.in_ok-node.node (node_name c.args.member.now.node) c.in_ok-node.ensures c.add_member.ensures
