use Rattle.std.proofs.Common.{Err}
use Rattle.std.proofs.lemmas.Result.{err_from_is_err_and}
use Rattle.sd_graph.specs.StatingLaws.{Ends-after, Ends-before}
use Rattle.bibtex_source.specs.Source.{seen, all_fields}
use Rattle.bibtex_source.specs.Text.{bytes_steps, shown_steps, bib_ending}
use Rattle.bibtex_source.proofs.Steps.{cuts}
use Rattle.bibtex_source.proofs.statements.add_texts_of_entry.Goals as goal

pub returns-in_err-add_bytes : goal.returns-in_err-add_bytes
returns-in_err-add_bytes c =
    let p = err_from_is_err_and c.from_residual.result c.from_residual.ensures.1 in
    let s = seen c.args.reading.now in
    rw (p.1, p.2)
    (Ends-before c.args.graph.now c.add_bytes.new.graph (bytes_steps s c.args.at c.args.key.now)
    (shown_steps s c.args.at c.args.key.now (all_fields s c.args.fields.now))
    (bib_ending (Err c.in_err-add_bytes.field-0.0)) (cuts c.in_err-add_bytes.field-0.0) c.in_err-add_bytes.ensures)

pub returns : goal.returns
returns c =
    let s = seen c.args.reading.now in
    Ends-after c.args.graph.now c.add_bytes.new.graph c.add_all_fields.new.graph (bytes_steps s c.args.at c.args.key.now)
    (shown_steps s c.args.at c.args.key.now (all_fields s c.args.fields.now))
    (bib_ending c.add_all_fields.result) c.in_ok-add_bytes.ensures c.add_all_fields.ensures
