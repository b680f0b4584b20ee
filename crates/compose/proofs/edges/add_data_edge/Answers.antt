use Rattle.std.proofs.lemmas.Result.{err_from_is_err_and}
use Rattle.std.proofs.Common.{◌≡◌, subst}
use Rattle.sd_value.specs.Names.{Name}
use Rattle.graph_spec.specs.Statement.{Statement}
use Rattle.compose.specs.Adding.{AddsAll}
use Rattle.compose.specs.Stated.{link_from}
use Rattle.compose.proofs.edges.add_data_edge.Goals as goal

pub returns-in_err-from : goal.returns-in_err-from
returns-in_err-from c =
    let p = err_from_is_err_and c.from_residual.result c.from_residual.ensures.1 in
    rw (p.1, p.2) tt

pub returns : goal.returns
returns c =
    let e = c.args.edge.now in
    subst (λ (n : Name). AddsAll (λ (s : Statement). link_from n e.label e.to ≡ s) c.args.builder.now
    c.add_link.new.builder c.add_link.result) c.in_ok-from.ensures c.add_link.ensures
