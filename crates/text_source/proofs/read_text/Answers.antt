use Rattle.std.proofs.lemmas.Result.{err_from_is_err_and}
use Rattle.text_source.proofs.Whole.{mark_length, no_text_ends, text_ends}
use Rattle.text_source.proofs.read_text.Goals as goal

pub check_text-requires : goal.check_text-requires
check_text-requires c = rw c.without_mark-text.ensures (mark_length c.args.bytes.now)

pub returns-in_err-check_text : goal.returns-in_err-check_text
returns-in_err-check_text c =
    let p = err_from_is_err_and c.from_residual.result c.from_residual.ensures.1 in
    rw (p.1, p.2)
    (no_text_ends c.args.stem.now c.args.folder.now c.args.bytes.now c.without_mark-text.result.now c.args.graph.now c.in_err-check_text.field-0.0 c.without_mark-text.ensures c.in_err-check_text.ensures)

pub add_file-requires : goal.add_file-requires
add_file-requires c = rw c.without_mark-text.ensures (mark_length c.args.bytes.now)

pub returns : goal.returns
returns c =
    text_ends c.args.stem.now c.args.folder.now c.args.bytes.now c.without_mark-text.result.now c.args.graph.now c.add_file.new.graph c.add_file.result
    c.without_mark-text.ensures c.in_ok-check_text.ensures c.add_file.ensures
