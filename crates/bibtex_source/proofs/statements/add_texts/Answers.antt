use Rattle.std.proofs.lemmas.Result.{err_from_is_err_and}
use Rattle.sd_graph.specs.StatingLaws.{Continues-step}
use Rattle.bibtex_source.specs.Text.{text_step, texts_steps}
use Rattle.bibtex_source.proofs.Steps.{stop}
use Rattle.bibtex_source.proofs.statements.add_texts.Goals as goal

pub returns-in_err-add_text : goal.returns-in_err-add_text
returns-in_err-add_text c =
    let p = err_from_is_err_and c.from_residual.result c.from_residual.ensures.1 in
    let split = c.in-Some.ensures.cases.0 in
    rw (p.1, p.2)
    (stop c.args.graph.now c.texts.graph c.add_text.new.graph (texts_steps c.args.at c.args.key.now c.args.label.now c.args.texts.now)
    (text_step c.args.at c.args.key.now c.args.label.now c.in-Some.text.now)
    (texts_steps c.args.at c.args.key.now c.args.label.now c.in-Some.more.now)
    c.in_err-add_text.field-0.0 (rw split at c.texts.invariant) c.in_err-add_text.ensures)

pub texts-preserved : goal.texts-preserved
texts-preserved c =
    let split = c.in-Some.ensures.cases.0 in
    Continues-step c.args.graph.now c.texts.graph c.add_text.new.graph (texts_steps c.args.at c.args.key.now c.args.label.now c.args.texts.now)
    (text_step c.args.at c.args.key.now c.args.label.now c.in-Some.text.now)
    (texts_steps c.args.at c.args.key.now c.args.label.now c.in-Some.more.now)
    (rw split at c.texts.invariant) c.in_ok-add_text.ensures
