use Rattle.std.proofs.lemmas.Result.{err_from_is_err_and}
use Rattle.text_source.specs.Lines.{lines_of}
use Rattle.text_source.proofs.Whole.{facts_end, fault_ends}
use Rattle.text_source.proofs.statements.add_file.Goals as goal

pub returns-in_err-facts : goal.returns-in_err-facts
returns-in_err-facts c =
    let p = err_from_is_err_and c.from_residual.result c.from_residual.ensures.1 in
    rw (p.1, p.2) (fault_ends c.args.stem.now c.args.folder.now (lines_of c.args.size c.args.text.now) c.args.graph.now c.in_err-facts.field-0.0 c.in_err-facts.ensures)

pub returns : goal.returns
returns c =
    facts_end c.args.stem.now c.args.folder.now (lines_of c.args.size c.args.text.now) c.in_ok-facts.facts.items c.args.graph.now c.state_all.new.graph c.state_all.result
    c.in_ok-facts.ensures (rw c.as_slice.ensures.value at c.state_all.ensures)
