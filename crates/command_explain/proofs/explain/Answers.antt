use Rattle.std.proofs.Common.{◌∷◌, [], inl, inr, arith}
use Rattle.std.proofs.lemmas.Result.{err_from_is_err_and}
use Rattle.std.specs.Prelude.{Ok, Err}
use Rattle.site_inputs.specs.Runs.{Then}
use Rattle.site_inputs.specs.Sources.{GraphEnds, empty_building}
use Rattle.site_inputs.specs.Sites.{QueryEnds}
use Rattle.site_inputs.proofs.Runs.{none_fell}
use Rattle.site_inputs.proofs.Causes.{cause_within}
use Rattle.site_inputs.proofs.Graphs.{then_next}
use Rattle.site_inputs.proofs.ReadLemmas.{reads_then, reads_stop, reads_fault, reads_done, reads_no_more}
use Rattle.command_spec.specs.Inputs.{explain_paths}
use Rattle.command_explain.specs.Ends.{ExplainTaken}
use Rattle.command_explain.proofs.Causes.{plans_cause, of_data, of_query}
use Rattle.command_explain.proofs.explain.Goals as goal

pub returns-in_err-graph-clause-cause : goal.returns-in_err-graph-clause-cause
returns-in_err-graph-clause-cause g c =
    let p = err_from_is_err_and c.from_residual.result c.from_residual.ensures.1 in
    rw (p.1, p.2)
    (cause_within c.args.command.now.sources.paths (explain_paths c.args.command.now) _ _ _ c.in_err-graph.field-0.0
    (of_data c.args.command.now.sources.paths c.args.command.now.query) (λ path. omega arith) c.in_err-graph.ensures.cause)

pub returns-in_err-query-clause-cause : goal.returns-in_err-query-clause-cause
returns-in_err-query-clause-cause g c =
    let p = err_from_is_err_and c.from_residual-in_err-query.result c.from_residual-in_err-query.ensures.1 in
    rw (p.1, p.2)
    (cause_within (c.args.command.now.query ∷ []) (explain_paths c.args.command.now) _ _ _ c.in_err-query.field-0.0
    (of_query c.args.command.now.sources.paths c.args.command.now.query) c.in_ok-graph.ensures.cause.later c.in_err-query.ensures.cause)

pub returns-clause-cause : goal.returns-clause-cause
returns-clause-cause g c =
    plans_cause c.in_ok-graph.graph c.in_ok-query.query _ _ _ c.plans_over.result (none_fell c.in_ok-graph.ensures.cause.later c.in_ok-query.ensures.cause.later) c.plans_over.ensures

pub returns-in_err-graph-clause-traced : goal.returns-in_err-graph-clause-traced
returns-in_err-graph-clause-traced g c =
    let p = err_from_is_err_and c.from_residual.result c.from_residual.ensures.1 in
    let command = c.args.command.now in
    rw (p.1, p.2)
    (reads_stop _ _ command.sources.paths (command.query ∷ []) _ _ _ c.in_err-graph.field-0.0 _ _ c.in_err-graph.ensures.traced (λ map h. inl h))

pub returns-in_err-query-clause-traced : goal.returns-in_err-query-clause-traced
returns-in_err-query-clause-traced g c =
    let p = err_from_is_err_and c.from_residual-in_err-query.result c.from_residual-in_err-query.ensures.1 in
    let command = c.args.command.now in
    let graph = c.in_ok-graph.graph in
    let fault = c.in_err-query.field-0.0 in
    rw (p.1, p.2)
    (reads_then command.sources.paths (command.query ∷ []) _ _ _ _ _ graph (Err fault) _ _ _ c.in_ok-graph.ensures.traced
    (reads_fault _ _ (command.query ∷ []) _ _ _ fault _ (λ map. QueryEnds map command.query (Err fault)) c.in_err-query.ensures.traced (λ map h. h))
    c.in_ok-graph.ensures.same
    (λ map f n. inr (record { value = graph; first = f; next = inl n })))

pub returns-clause-traced : goal.returns-clause-traced
returns-clause-traced g c =
    let command = c.args.command.now in
    let graph = c.in_ok-graph.graph in
    let query = c.in_ok-query.query in
    let result = c.plans_over.result in
    reads_done (explain_paths command) _ _ _ query result _ _
    (reads_then command.sources.paths (command.query ∷ []) _ _ _ _ _ graph (Ok query) _ _
    (λ map. GraphEnds map empty_building command.sources (Ok graph) × QueryEnds map command.query (Ok query))
    c.in_ok-graph.ensures.traced c.in_ok-query.ensures.traced c.in_ok-graph.ensures.same (λ map f n. (f, n)))
    (reads_no_more (ExplainTaken graph query) (λ path taken. taken) result c.plans_over.ensures)
    (λ map h. then_next (GraphEnds map empty_building command.sources) (λ graph. Then (QueryEnds map command.query) (ExplainTaken graph)) graph result h.0
    (then_next (QueryEnds map command.query) (ExplainTaken graph) query result h.1 c.plans_over.ensures))
