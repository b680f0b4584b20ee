use Rattle.std.proofs.Common.{sym, ap, subst, ◌∙◌}
use Rattle.sd_graph.specs.Statement.{a_node, a_member}
use Rattle.sd_graph.specs.Stating.{Ends}
use Rattle.sd_ddl.specs.Tables.{told_of}
use Rattle.sd_ddl.specs.Steps.{said, edge_steps, value_of}
use Rattle.sd_ddl.specs.Stops.{stop_ending}
use Rattle.sd_ddl.proofs.Conflicts.{stated}
use Rattle.sd_ddl.proofs.conflict.add_part.Goals as goal

pub returns-in-Node : goal.returns-in-Node
returns-in-Node c =
    subst (λ p. Ends c.args.graph.now (said (told_of c.args.kinds.now) p) c.add_node.new.self (stop_ending c.stop_at.result)) (sym c.in-Node.is)
    (stated c.in-Node.name.place (a_node c.in-Node.name.text) c.args.graph.now c.add_node.new.self c.add_node.result c.stop_at.result c.add_node.ensures c.stop_at.ensures)

pub returns-in-Member : goal.returns-in-Member
returns-in-Member c =
    subst (λ p. Ends c.args.graph.now (said (told_of c.args.kinds.now) p) c.add_member.new.self (stop_ending c.stop_at-in-Member.result)) (sym c.in-Member.is)
    (stated c.in-Member.collection.place (a_member c.in-Member.collection.text c.in-Member.object) c.args.graph.now c.add_member.new.self c.add_member.result c.stop_at-in-Member.result
    c.add_member.ensures c.stop_at-in-Member.ensures)

pub returns-in_ok-value-in-Edge : goal.returns-in_ok-value-in-Edge
returns-in_ok-value-in-Edge c =
    let e = c.in-Edge in
    subst (λ p. Ends c.args.graph.now (said (told_of c.args.kinds.now) p) c.add_edge.new.graph (stop_ending c.add_edge.result)) (sym e.is)
    (subst (λ v. Ends c.args.graph.now (edge_steps e.given.place e.object e.label v) c.add_edge.new.graph (stop_ending c.add_edge.result))
    (c.in_ok-value-in-Edge.ensures.value ∙ ap (λ t. value_of t e.given.content) c.in_ok-told-in-Edge.ensures) c.add_edge.ensures)
