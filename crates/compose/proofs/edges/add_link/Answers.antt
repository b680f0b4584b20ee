use Rattle.std.proofs.lemmas.Result.{err_from_is_err_and}
use Rattle.compose.proofs.Sources.{link_at}
use Rattle.compose.proofs.edges.add_link.Goals as goal

pub returns-in_err-end : goal.returns-in_err-end
returns-in_err-end c =
    let p = err_from_is_err_and c.from_residual.result c.from_residual.ensures.1 in
    rw (p.1, p.2) tt

pub returns : goal.returns
returns c = link_at c.args.builder.now c.add_edge.new.self c.add_edge.result c.args.from.now c.args.label.now
    c.args.to.now c.in_ok-end.end c.in_ok-end.ensures c.add_edge.ensures
