use Rattle.std.proofs.Common.{◌∙◌, sym, arith, Err}
use Rattle.std.proofs.lemmas.Result.{err_from_is_err_and}
use Rattle.sd_graph.specs.StatingLaws.{Ends-after, Ends-before}
use Rattle.csv_source.specs.Text.{header_steps, rows_steps, csv_ending}
use Rattle.csv_source.specs.Reader.{records_left}
use Rattle.csv_source.proofs.Steps.{cuts, records_are}
use Rattle.csv_source.proofs.read_csv.Goals as goal

pub returns-in_err-check_labels : goal.returns-in_err-check_labels
returns-in_err-check_labels c =
    let p = err_from_is_err_and c.from_residual-in_err-check_labels.result c.from_residual-in_err-check_labels.ensures.1 in
    let gives = rw c.in-Some.is at c.in_ok-labels.ensures in
    let all = records_are c.args.rules c.in_ok-separator.separator c.without_mark-text.result.now c.args.bytes.now c.without_mark-text.ensures c.in_ok-separator.ensures
    ∙ sym c.reader_of-reader.ensures.records ∙ gives.0 in
    let checked = c.in_err-check_labels.ensures c.args.graph.now in
    rw (p.1, p.2, all)
    (Ends-before c.args.graph.now c.args.graph.now (header_steps c.in-Some.labels.items)
    (rows_steps c.args.rules c.args.stem.now c.in-Some.labels.items 1 (records_left c.next_fields.new.reader))
    (csv_ending (Err c.in_err-check_labels.field-0.0)) (cuts c.in_err-check_labels.field-0.0) (rw c.as_slice.ensures.value at checked))

pub add_rows-requires-clause-small : goal.add_rows-requires-clause-small
add_rows-requires-clause-small c =
    let gives = rw c.in-Some.is at c.in_ok-labels.ensures in
    omega (arith, gives.2, c.reader_of-reader.ensures.small)

pub returns : goal.returns
returns c =
    let gives = rw c.in-Some.is at c.in_ok-labels.ensures in
    let all = records_are c.args.rules c.in_ok-separator.separator c.without_mark-text.result.now c.args.bytes.now c.without_mark-text.ensures c.in_ok-separator.ensures
    ∙ sym c.reader_of-reader.ensures.records ∙ gives.0 in
    let checked = c.in_ok-check_labels.ensures c.args.graph.now in
    rw all
    (Ends-after c.args.graph.now c.args.graph.now c.add_rows.new.graph (header_steps c.in-Some.labels.items)
    (rows_steps c.args.rules c.args.stem.now c.in-Some.labels.items 1 (records_left c.next_fields.new.reader))
    (csv_ending c.add_rows.result) (rw c.as_slice.ensures.value at checked) (rw c.as_slice-2.ensures.value at c.add_rows.ensures))
