use Rattle.std.proofs.Common.{◌≡◌, ◌∷◌, [], map, length, ap, sym}
use Rattle.std.proofs.lemmas.Result.{err_from_is_err_and}
use Rattle.sd_graph.specs.Stating.{done}
use Rattle.sd_graph.specs.StatingLaws.{Continues-step}
use Rattle.text_source.specs.declared.facts.Fact.{Fact}
use Rattle.text_source.specs.Text.{TextStep, step_of}
use Rattle.text_source.proofs.Steps.{stop, no_facts}
use Rattle.text_source.proofs.facts.state_all.Goals as goal

pub returns-in_err-state : goal.returns-in_err-state
returns-in_err-state c =
    let p = err_from_is_err_and c.from_residual.result c.from_residual.ensures.1 in
    let facts = c.in-Some.ensures.cases.0 in
    rw (p.1, p.2)
    (stop c.args.graph.now c.facts.graph c.state.new.graph (map (step_of c.args.stem.now) c.args.facts.now)
    (step_of c.args.stem.now c.in-Some.fact.now ∷ []) (map (step_of c.args.stem.now) c.in-Some.later.now)
    c.in_err-state.field-0.0 (rw facts at c.facts.invariant) c.in_err-state.ensures)

pub facts-preserved : goal.facts-preserved
facts-preserved c =
    let facts = c.in-Some.ensures.cases.0 in
    Continues-step c.args.graph.now c.facts.graph c.state.new.graph (map (step_of c.args.stem.now) c.args.facts.now)
    (step_of c.args.stem.now c.in-Some.fact.now ∷ []) (map (step_of c.args.stem.now) c.in-Some.later.now)
    (rw facts at c.facts.invariant) c.in_ok-state.ensures

pub returns : goal.returns
returns c = no_facts c.args.graph.now c.facts.graph c.args.stem.now (map (step_of c.args.stem.now) c.args.facts.now) c.facts.rest.now c.in_default.ensures.cases c.facts.invariant
