use Rattle.std.proofs.Common.{Err}
use Rattle.std.proofs.lemmas.Result.{err_from_is_err_and}
use Rattle.sd_graph.specs.StatingLaws.{Ends-after, Ends-before}
use Rattle.bibtex_source.specs.Source.{seen}
use Rattle.bibtex_source.specs.Text.{fields_steps, byline_steps, bib_ending}
use Rattle.bibtex_source.proofs.Steps.{cuts}
use Rattle.bibtex_source.proofs.statements.add_shown.Goals as goal

pub returns-in_err-add_fields : goal.returns-in_err-add_fields
returns-in_err-add_fields c =
    let p = err_from_is_err_and c.from_residual.result c.from_residual.ensures.1 in
    rw (p.1, p.2)
    (Ends-before c.args.graph.now c.add_fields.new.graph (fields_steps (seen c.args.reading.now) c.args.at c.args.key.now c.args.fields.now)
    (byline_steps (seen c.args.reading.now) c.args.at c.args.key.now c.args.fields.now)
    (bib_ending (Err c.in_err-add_fields.field-0.0)) (cuts c.in_err-add_fields.field-0.0) c.in_err-add_fields.ensures)

pub returns : goal.returns
returns c =
    Ends-after c.args.graph.now c.add_fields.new.graph c.add_byline.new.graph (fields_steps (seen c.args.reading.now) c.args.at c.args.key.now c.args.fields.now)
    (byline_steps (seen c.args.reading.now) c.args.at c.args.key.now c.args.fields.now)
    (bib_ending c.add_byline.result) c.in_ok-add_fields.ensures c.add_byline.ensures
