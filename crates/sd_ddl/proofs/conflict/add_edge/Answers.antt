use Rattle.std.proofs.Common.{refl, sym, ap, subst, []}
use Rattle.sd_graph.specs.Statement.{an_edge}
use Rattle.sd_graph.specs.Stating.{Ends}
use Rattle.sd_ddl.specs.Steps.{edge_steps}
use Rattle.sd_ddl.specs.Stops.{stop_ending}
use Rattle.sd_ddl.proofs.Conflicts.{stated}
use Rattle.sd_ddl.proofs.conflict.add_edge.Goals as goal

pub returns-in-Some : goal.returns-in-Some
returns-in-Some c =
    subst (λ v. Ends c.args.graph.now (edge_steps c.args.place c.args.object.now c.args.label.now v) c.add_edge.new.self (stop_ending c.stop_at.result)) (sym c.in-Some.is)
    (stated c.args.place (an_edge c.args.object.now c.args.label.now c.in-Some.value) c.args.graph.now c.add_edge.new.self c.add_edge.result c.stop_at.result c.add_edge.ensures c.stop_at.ensures)

pub returns-in-None : goal.returns-in-None
returns-in-None c = ([], [], ap (edge_steps c.args.place c.args.object.now c.args.label.now) c.in-None.is, refl)
