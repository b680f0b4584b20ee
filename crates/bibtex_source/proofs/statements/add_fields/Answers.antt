use Rattle.std.proofs.lemmas.Result.{err_from_is_err_and}
use Rattle.sd_graph.specs.StatingLaws.{Continues-step}
use Rattle.bibtex_source.specs.Source.{seen}
use Rattle.bibtex_source.specs.Text.{field_steps, fields_steps}
use Rattle.bibtex_source.proofs.Steps.{stop}
use Rattle.bibtex_source.proofs.statements.add_fields.Goals as goal

pub returns-in_err-add_field : goal.returns-in_err-add_field
returns-in_err-add_field c =
    let p = err_from_is_err_and c.from_residual.result c.from_residual.ensures.1 in
    let split = c.in-Some.ensures.cases.0 in
    rw (p.1, p.2)
    (stop c.args.graph.now c.fields.graph c.add_field.new.graph (fields_steps (seen c.args.reading.now) c.args.at c.args.key.now c.args.fields.now)
    (field_steps (seen c.args.reading.now) c.args.at c.args.key.now c.in-Some.field.now)
    (fields_steps (seen c.args.reading.now) c.args.at c.args.key.now c.in-Some.more.now)
    c.in_err-add_field.field-0.0 (rw split at c.fields.invariant) c.in_err-add_field.ensures)

pub fields-preserved : goal.fields-preserved
fields-preserved c =
    let split = c.in-Some.ensures.cases.0 in
    Continues-step c.args.graph.now c.fields.graph c.add_field.new.graph (fields_steps (seen c.args.reading.now) c.args.at c.args.key.now c.args.fields.now)
    (field_steps (seen c.args.reading.now) c.args.at c.args.key.now c.in-Some.field.now)
    (fields_steps (seen c.args.reading.now) c.args.at c.args.key.now c.in-Some.more.now)
    (rw split at c.fields.invariant) c.in_ok-add_field.ensures
