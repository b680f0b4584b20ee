use Rattle.std.proofs.Common.{◌∙◌, ◌∷◌, [], Err, arith, refl, inl}
use Rattle.std.proofs.lemmas.Result.{err_from_is_err_and}
use Rattle.site_inputs.proofs.Graphs.{graph_next, graph_fault}
use Rattle.site_inputs.proofs.ReadLemmas.{gathered_more, gathered_fault, gathered_all, gathered_first}
use Rattle.site_inputs.proofs.Runs.{none_fell}
use Rattle.site_inputs.proofs.Causes.{cause_within, only_one, item_within}
use Rattle.site_inputs.proofs.inputs.gather_files.Goals as goal

pub loop-path-init : goal.loop-path-init
loop-path-init g c =
    let first = gathered_first c.args.rules c.args.paths.now c.new-graph.result (g.F.Files.trace c.args.files.now) (g.F.Files.contents c.args.files.now) c.new-graph.ensures.limits c.new-graph.ensures.empty in
    record {
      same = refl;
      writes = refl;
      later = λ path. omega arith;
      rest = λ map told result ends. first.rest map (inl told) result ends;
      gathered = first;
    }

pub loop-path-preserved : goal.loop-path-preserved
loop-path-preserved g c = record {
  same = c.in_ok-take_source.ensures.same ∙ c.loop-path.invariant.same;
  writes = c.in_ok-take_source.ensures.writes ∙ c.loop-path.invariant.writes;
  later = none_fell c.loop-path.invariant.later c.in_ok-take_source.ensures.cause.later;
  rest = λ map told result ends.
      c.loop-path.invariant.rest map told result
      (graph_next c.args.rules map c.loop-path.graph c.take_source.new.graph c.args.paths.now c.loop-path.path-index c.path-item.result result c.loop-path-test.true c.path-item.is (c.in_ok-take_source.ensures.ends map (c.loop-path.invariant.same ∙ told)) ends);
  gathered = gathered_more c.args.rules c.args.paths.now c.loop-path.path-index c.path-item.result c.loop-path.graph _ _ _ _ _ c.loop-path-test.true c.path-item.is c.loop-path.invariant.same c.loop-path.invariant.gathered c.take_source.new.graph c.in_ok-take_source.ensures.traced;
}

pub returns-in_err-take_source-clause-ends : goal.returns-in_err-take_source-clause-ends
returns-in_err-take_source-clause-ends g c = λ map told.
    let p = err_from_is_err_and c.from_residual.result c.from_residual.ensures.1 in
    rw (p.1, p.2)
    (c.loop-path.invariant.rest map told (Err c.in_err-take_source.field-0.0)
    (graph_fault c.args.rules map c.loop-path.graph c.args.paths.now c.loop-path.path-index c.path-item.result c.in_err-take_source.field-0.0 c.loop-path-test.true c.path-item.is (c.in_err-take_source.ensures.ends map (c.loop-path.invariant.same ∙ told))))

pub returns-in_err-take_source-clause-cause : goal.returns-in_err-take_source-clause-cause
returns-in_err-take_source-clause-cause g c =
    let p = err_from_is_err_and c.from_residual.result c.from_residual.ensures.1 in
    rw (p.1, p.2)
    (cause_within (c.path-item.result ∷ []) c.args.paths.now _ _ _ c.in_err-take_source.field-0.0
    (only_one c.args.paths.now c.path-item.result (item_within c.args.paths.now c.loop-path.path-index c.path-item.result c.loop-path-test.true c.path-item.is))
    c.loop-path.invariant.later c.in_err-take_source.ensures.cause)

pub returns-in_err-take_source-clause-traced : goal.returns-in_err-take_source-clause-traced
returns-in_err-take_source-clause-traced g c =
    let p = err_from_is_err_and c.from_residual.result c.from_residual.ensures.1 in
    rw (p.1, p.2)
    (gathered_fault c.args.rules c.args.paths.now c.loop-path.path-index c.path-item.result c.loop-path.graph _ _ _ _ _ c.loop-path-test.true c.path-item.is c.loop-path.invariant.same c.loop-path.invariant.gathered _ c.in_err-take_source.field-0.0 c.in_err-take_source.ensures.traced)

pub returns-clause-traced : goal.returns-clause-traced
returns-clause-traced g c =
    gathered_all c.args.rules c.args.paths.now c.loop-path.path-index _ c.loop-path.graph _ _ _ (omega (arith, c.loop-path-test.false)) c.loop-path.invariant.gathered
