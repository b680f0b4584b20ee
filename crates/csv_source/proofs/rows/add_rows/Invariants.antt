use Rattle.std.proofs.Common.{◌+◌, ◌≤◌, length}
use Rattle.sd_graph.specs.StatingLaws.{Continues}
use Rattle.csv_source.specs.Text.{rows_steps}
use Rattle.csv_source.specs.Reader.{IsOpen, bytes_left, records_left}
use Rattle.csv_source.proofs.rows.add_rows.Given as goal

abbrev pub invariant-rows : goal.invariant-rows
invariant-rows l =
    IsOpen l.reader
    × (l.row + length (bytes_left l.reader) ≤ length (bytes_left l.fn.reader) + 1)
    × Continues l.fn.graph (rows_steps l.rules l.stem l.labels 1 (records_left l.fn.reader)) l.graph (rows_steps l.rules l.stem l.labels l.row (records_left l.reader))

abbrev pub decreases-rows : goal.decreases-rows
decreases-rows l = length (bytes_left l.reader)
