use Rattle.std.proofs.Common.{sym, subst}
use Rattle.std.proofs.lemmas.Result.{err_from_is_err_and}
use Rattle.std.specs.Prelude.{Ok, Err}
use Rattle.graph_spec.specs.DataGraph.{DataGraph}
use Rattle.site_inputs.specs.declared.fault.Fault.TheVariants.{NoMemory}
use Rattle.site_inputs.specs.Sources.{GraphEnds}
use Rattle.site_inputs.proofs.ReadLemmas.{reads_done}
use Rattle.data_source.specs.Rules.{rules_of}
use Rattle.site_inputs.specs.Sources.{empty_building}
use Rattle.site_inputs.proofs.Graphs.{graph_no_memory}
use Rattle.site_inputs.proofs.inputs.load_graph.Goals as goal

pub returns-in_err-gathered-clause-ends : goal.returns-in_err-gathered-clause-ends
returns-in_err-gathered-clause-ends g c = λ map told.
    let p = err_from_is_err_and c.from_residual.result c.from_residual.ensures.1 in
    rw (p.1, p.2) (c.in_err-gathered.ensures.ends map told)

pub returns-in_err-graph-clause-ends : goal.returns-in_err-graph-clause-ends
returns-in_err-graph-clause-ends g c = λ map told.
    let p = err_from_is_err_and c.from_residual-in_err-graph.result c.from_residual-in_err-graph.ensures.1 in
    rw (p.1, p.2) (graph_no_memory (rules_of c.args.sources.now.lenient) map empty_building c.args.sources.now.paths c.in_ok-gathered.gathered.graph (c.in_ok-gathered.ensures.ends map told))

pub returns-in_err-graph-clause-traced : goal.returns-in_err-graph-clause-traced
returns-in_err-graph-clause-traced g c =
    let p = err_from_is_err_and c.from_residual-in_err-graph.result c.from_residual-in_err-graph.ensures.1 in
    rw (p.1, p.2)
    (reads_done c.args.sources.now.paths _ _ _ c.in_ok-gathered.gathered (Err NoMemory) _ _ c.in_ok-gathered.ensures.traced tt
    (λ map h. graph_no_memory (rules_of c.args.sources.now.lenient) map empty_building c.args.sources.now.paths c.in_ok-gathered.gathered.graph h))

pub returns-clause-traced : goal.returns-clause-traced
returns-clause-traced g c =
    reads_done c.args.sources.now.paths _ _ _ c.in_ok-gathered.gathered (Ok c.in_ok-graph.graph) _ _ c.in_ok-gathered.ensures.traced tt
    (λ map h. subst (λ (G : DataGraph). GraphEnds map empty_building c.args.sources.now (Ok G)) (sym c.in_ok-graph.ensures) h)
