use Rattle.std.proofs.Common.{inr, ap, subst, ◌∙◌}
use Rattle.std.specs.Prelude.{Err}
use Rattle.std.proofs.lemmas.Result.{err_from_is_err_and}
use Rattle.graph_spec.specs.DataGraph.{DataGraph}
use Rattle.sd_graph.specs.declared.GraphRefusal.{GraphRefusal}
use Rattle.site_spec.specs.Site.{Scope, scope_of}
use Rattle.composed_data.specs.SiteData.{SiteDataEnds}
use Rattle.composed_data.proofs.made.composed_data.Goals as goal

pub returns-in_err-scopes : goal.returns-in_err-scopes
returns-in_err-scopes c =
    let p = err_from_is_err_and c.from_residual.result c.from_residual.ensures.1 in
    inr (p.1 ∙ ap (λ (e : GraphRefusal). Err e) p.2)

pub returns-in_err-copied : goal.returns-in_err-copied
returns-in_err-copied c =
    let p = err_from_is_err_and c.from_residual-in_err-copied.result c.from_residual-in_err-copied.ensures.1 in
    inr (p.1 ∙ ap (λ (e : GraphRefusal). Err e) p.2)

pub returns-in_err-other : goal.returns-in_err-other
returns-in_err-other c =
    let p = err_from_is_err_and c.from_residual-in_err-other.result c.from_residual-in_err-other.ensures.1 in
    inr (p.1 ∙ ap (λ (e : GraphRefusal). Err e) p.2)

pub returns-in_err-store : goal.returns-in_err-store
returns-in_err-store c =
    let p = err_from_is_err_and c.from_residual-in_err-store.result c.from_residual-in_err-store.ensures.1 in
    inr (p.1 ∙ ap (λ (e : GraphRefusal). Err e) p.2)

pub returns-in_err-graph : goal.returns-in_err-graph
returns-in_err-graph c =
    let p = err_from_is_err_and c.from_residual-in_err-graph.result c.from_residual-in_err-graph.ensures.1 in
    inr (p.1 ∙ ap (λ (e : GraphRefusal). Err e) p.2)

pub returns : goal.returns
returns c =
    subst (λ (raw : DataGraph). SiteDataEnds c.args.limits raw (scope_of c.args.query.now) c.site_data.result) c.in_ok-graph.ensures
    (subst (λ (q : Scope). SiteDataEnds c.args.limits c.in_ok-graph.graph q c.site_data.result) c.in_ok-scopes.ensures.scope c.site_data.ensures)
