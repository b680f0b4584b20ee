use Rattle.std.proofs.Common.{◌∷◌, [], Err}
use Rattle.std.proofs.lemmas.Result.{err_from_is_err_and}
use Rattle.sd_graph.specs.Statement.{a_node, a_member}
use Rattle.sd_graph.specs.Stating.{says}
use Rattle.sd_graph.specs.StatingLaws.{Ends-after, Ends-before}
use Rattle.csv_source.specs.Text.{field_steps, csv_ending}
use Rattle.csv_source.proofs.Steps.{cuts}
use Rattle.csv_source.proofs.rows.state_row.Goals as goal

pub returns-in_err-state_node : goal.returns-in_err-state_node
returns-in_err-state_node c =
    let p = err_from_is_err_and c.from_residual.result c.from_residual.ensures.1 in
    rw (p.1, p.2)
    (Ends-before c.args.graph.now c.state_node.new.graph (says c.args.row (a_node c.args.name.now) ∷ [])
    (says c.args.row (a_member c.args.stem.now c.args.name.now) ∷ field_steps c.args.rules c.args.row c.args.name.now c.args.labels.now c.args.fields.now)
    (csv_ending (Err c.in_err-state_node.field-0.0)) (cuts c.in_err-state_node.field-0.0) c.in_err-state_node.ensures)

pub returns-in_err-state_member : goal.returns-in_err-state_member
returns-in_err-state_member c =
    let p = err_from_is_err_and c.from_residual-in_err-state_member.result c.from_residual-in_err-state_member.ensures.1 in
    rw (p.1, p.2)
    (Ends-after c.args.graph.now c.state_node.new.graph c.state_member.new.graph (says c.args.row (a_node c.args.name.now) ∷ [])
    (says c.args.row (a_member c.args.stem.now c.args.name.now) ∷ field_steps c.args.rules c.args.row c.args.name.now c.args.labels.now c.args.fields.now)
    (csv_ending (Err c.in_err-state_member.field-0.0)) c.in_ok-state_node.ensures
    (Ends-before c.state_node.new.graph c.state_member.new.graph (says c.args.row (a_member c.args.stem.now c.args.name.now) ∷ [])
    (field_steps c.args.rules c.args.row c.args.name.now c.args.labels.now c.args.fields.now)
    (csv_ending (Err c.in_err-state_member.field-0.0)) (cuts c.in_err-state_member.field-0.0) c.in_err-state_member.ensures))

pub returns : goal.returns
returns c =
    Ends-after c.args.graph.now c.state_node.new.graph c.add_fields.new.graph (says c.args.row (a_node c.args.name.now) ∷ [])
    (says c.args.row (a_member c.args.stem.now c.args.name.now) ∷ field_steps c.args.rules c.args.row c.args.name.now c.args.labels.now c.args.fields.now)
    (csv_ending c.add_fields.result) c.in_ok-state_node.ensures
    (Ends-after c.state_node.new.graph c.state_member.new.graph c.add_fields.new.graph (says c.args.row (a_member c.args.stem.now c.args.name.now) ∷ [])
    (field_steps c.args.rules c.args.row c.args.name.now c.args.labels.now c.args.fields.now)
    (csv_ending c.add_fields.result) c.in_ok-state_member.ensures c.add_fields.ensures)
