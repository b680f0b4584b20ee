use Rattle.std.proofs.lemmas.Result.{err_from_is_err_and}
use Rattle.sd_graph.specs.StatingLaws.{Continues-step}
use Rattle.csv_source.specs.Text.{field_step, field_steps}
use Rattle.csv_source.proofs.Steps.{stop}
use Rattle.csv_source.proofs.rows.add_fields.Goals as goal

pub returns-in_err-add_field : goal.returns-in_err-add_field
returns-in_err-add_field c =
    let p = err_from_is_err_and c.from_residual.result c.from_residual.ensures.1 in
    let labels = c.in-Some.ensures.cases.0 in
    let fields = c.in-Some-split_first.ensures.cases.0 in
    rw (p.1, p.2)
    (stop c.args.graph.now c.columns.graph c.add_field.new.graph (field_steps c.args.rules c.args.row c.args.name.now c.args.labels.now c.args.fields.now)
    (field_step c.args.rules c.args.row c.args.name.now c.in-Some.label.now c.in-Some-split_first.field.now)
    (field_steps c.args.rules c.args.row c.args.name.now c.in-Some.more_labels.now c.in-Some-split_first.more_fields.now)
    c.in_err-add_field.field-0.0 (rw (labels, fields) at c.columns.invariant) c.in_err-add_field.ensures)

pub columns-preserved : goal.columns-preserved
columns-preserved c =
    let labels = c.in-Some.ensures.cases.0 in
    let fields = c.in-Some-split_first.ensures.cases.0 in
    Continues-step c.args.graph.now c.columns.graph c.add_field.new.graph (field_steps c.args.rules c.args.row c.args.name.now c.args.labels.now c.args.fields.now)
    (field_step c.args.rules c.args.row c.args.name.now c.in-Some.label.now c.in-Some-split_first.field.now)
    (field_steps c.args.rules c.args.row c.args.name.now c.in-Some.more_labels.now c.in-Some-split_first.more_fields.now)
    (rw (labels, fields) at c.columns.invariant) c.in_ok-add_field.ensures
