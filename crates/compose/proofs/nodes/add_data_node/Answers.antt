use Rattle.std.proofs.lemmas.Result.{err_from_is_err_and}
use Rattle.compose_spec.specs.Composed.{node_name}
use Rattle.compose.proofs.Sources.{node_at}
use Rattle.compose.proofs.nodes.add_data_node.Goals as goal

pub returns-in_err-name : goal.returns-in_err-name
returns-in_err-name c =
    let p = err_from_is_err_and c.from_residual.result c.from_residual.ensures.1 in
    rw (p.1, p.2) tt

pub returns : goal.returns
returns c = node_at c.args.builder.now c.add_node.new.self c.add_node.result c.in_ok-name.name
    (node_name c.args.name.now) c.in_ok-name.ensures c.add_node.ensures
