use Rattle.std.proofs.Common.{List, Ok, Err, sym, subst}
use Rattle.sd_value.specs.Names.{Name}
use Rattle.std.proofs.lemmas.Result.{err_from_is_err_and}
use Rattle.graph_spec.specs.DataGraph.{DataGraph}
use Rattle.sd_graph.specs.declared.Limits.{Limits}
use Rattle.compose_spec.specs.Composed.{IsSiteGraph}
use Rattle.compose.specs.Adding.{Gains, AddsAll}
use Rattle.compose.specs.Listed.{AnswersWithin}
use Rattle.compose.specs.Stated.{IsNodeStated}
use Rattle.compose.proofs.Whole.{nodes_refused, rest_refused, graph_whole, graph_answers}
use Rattle.compose.proofs.graph.site_graph.Goals as goal

pub returns-in_err-add_nodes-clause-limits : goal.returns-in_err-add_nodes-clause-limits
returns-in_err-add_nodes-clause-limits g c = λ whole is.
    let p = err_from_is_err_and c.from_residual.result c.from_residual.ensures.1 in
    let e = c.in_err-add_nodes.field-0.0 in
    rw (p.1, p.2)
    (subst (λ (l : Limits). AnswersWithin l whole (Err e)) c.new-builder.ensures.limits
    (nodes_refused (g.V.SiteView.site (g.V.SiteView.fixed c.args.view.now)) c.args.graph.now c.args.terms.now
    c.args.labels.now c.args.collections.now c.nodes.ensures.well_formed c.requires.listed c.new-builder.result
    c.new-builder.ensures.empty
    c.add_nodes.new.builder e
    (subst (λ (ns : List Name). AddsAll (IsNodeStated ns c.args.terms.now) c.new-builder.result c.add_nodes.new.builder
    (Err e)) c.nodes.ensures.value c.in_err-add_nodes.ensures) whole is))

pub returns-in_err-add_edges-clause-limits : goal.returns-in_err-add_edges-clause-limits
returns-in_err-add_edges-clause-limits g c = λ whole is.
    let p = err_from_is_err_and c.from_residual-in_err-add_edges.result c.from_residual-in_err-add_edges.ensures.1 in
    let e = c.in_err-add_edges.field-0.0 in
    rw (p.1, p.2)
    (subst (λ (l : Limits). AnswersWithin l whole (Err e)) c.new-builder.ensures.limits
    (rest_refused (g.V.SiteView.site (g.V.SiteView.fixed c.args.view.now)) c.args.graph.now c.args.terms.now
    c.args.labels.now c.args.collections.now c.nodes.ensures.well_formed c.requires.listed c.new-builder.result
    c.new-builder.ensures.empty
    c.add_nodes.new.builder
    (subst (λ (ns : List Name). Gains (IsNodeStated ns c.args.terms.now) c.new-builder.result c.add_nodes.new.builder)
    c.nodes.ensures.value c.in_ok-add_nodes.ensures) c.add_edges.new.builder e c.in_err-add_edges.ensures.added
    whole is))

pub returns-in_err-whole-clause-limits : goal.returns-in_err-whole-clause-limits
returns-in_err-whole-clause-limits g c = λ whole is.
    let p = err_from_is_err_and c.from_residual-in_err-whole.result c.from_residual-in_err-whole.ensures.1 in
    rw (p.1, p.2) tt

pub returns-clause-graph : goal.returns-clause-graph
returns-clause-graph g c =
    subst (IsSiteGraph (g.V.SiteView.site (g.V.SiteView.fixed c.args.view.now)) c.args.graph.now.nodes)
    (sym c.in_ok-whole.ensures)
    (graph_whole (g.V.SiteView.site (g.V.SiteView.fixed c.args.view.now)) c.args.graph.now c.args.terms.now
    c.args.labels.now c.args.collections.now c.nodes.ensures.well_formed c.requires.listed c.new-builder.result
    c.new-builder.ensures.empty
    c.add_nodes.new.builder
    (subst (λ (ns : List Name). Gains (IsNodeStated ns c.args.terms.now) c.new-builder.result c.add_nodes.new.builder)
    c.nodes.ensures.value c.in_ok-add_nodes.ensures) c.add_edges.new.builder c.in_ok-add_edges.ensures.added)

pub returns-clause-limits : goal.returns-clause-limits
returns-clause-limits g c = λ whole is.
    subst (λ (G : DataGraph). AnswersWithin c.args.limits whole (Ok G)) (sym c.in_ok-whole.ensures)
    (subst (λ (l : Limits). AnswersWithin l whole (Ok c.add_edges.new.builder.graph)) c.new-builder.ensures.limits
    (graph_answers (g.V.SiteView.site (g.V.SiteView.fixed c.args.view.now)) c.args.graph.now c.args.terms.now
    c.args.labels.now c.args.collections.now c.nodes.ensures.well_formed c.requires.listed c.new-builder.result
    c.new-builder.ensures.empty
    c.add_nodes.new.builder
    (subst (λ (ns : List Name). Gains (IsNodeStated ns c.args.terms.now) c.new-builder.result c.add_nodes.new.builder)
    c.nodes.ensures.value c.in_ok-add_nodes.ensures) c.add_edges.new.builder c.in_ok-add_edges.ensures.added whole
    is))
