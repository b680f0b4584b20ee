use Rattle.std.proofs.Common.{◌+◌, arith}
use Rattle.std.proofs.lemmas.Result.{err_from_is_err_and}
use Rattle.sd_graph.specs.StatingLaws.{Continues-step}
use Rattle.csv_source.specs.Text.{row_steps, rows_steps}
use Rattle.csv_source.specs.Reader.{records_left}
use Rattle.csv_source.proofs.Steps.{stop}
use Rattle.csv_source.proofs.rows.add_rows.Goals as goal

pub returns-in_err-add_row : goal.returns-in_err-add_row
returns-in_err-add_row c =
    let p = err_from_is_err_and c.from_residual-in_err-add_row.result c.from_residual-in_err-add_row.ensures.1 in
    let (open_, room, whole) = c.rows.invariant in
    let gives = rw c.in-Some.is at c.in_ok-fields.ensures in
    rw (p.1, p.2)
    (stop c.args.graph.now c.rows.graph c.add_row.new.graph (rows_steps c.args.rules c.args.stem.now c.args.labels.now 1 (records_left c.args.reader.now))
    (row_steps c.args.rules c.args.stem.now c.args.labels.now c.rows.row c.in-Some.fields.items)
    (rows_steps c.args.rules c.args.stem.now c.args.labels.now (c.rows.row + 1) (records_left c.next_fields.new.reader))
    c.in_err-add_row.field-0.0 (rw gives.0 at whole) (rw c.as_slice.ensures.value at c.in_err-add_row.ensures))

pub rows-preserved : goal.rows-preserved
rows-preserved c =
    let (open_, room, whole) = c.rows.invariant in
    let gives = rw c.in-Some.is at c.in_ok-fields.ensures in (
      gives.1,
      omega (arith, room, gives.2),
      Continues-step c.args.graph.now c.rows.graph c.add_row.new.graph (rows_steps c.args.rules c.args.stem.now c.args.labels.now 1 (records_left c.args.reader.now))
          (row_steps c.args.rules c.args.stem.now c.args.labels.now c.rows.row c.in-Some.fields.items)
          (rows_steps c.args.rules c.args.stem.now c.args.labels.now (c.rows.row + 1) (records_left c.next_fields.new.reader))
          (rw gives.0 at whole) (rw c.as_slice.ensures.value at c.in_ok-add_row.ensures),
    )
