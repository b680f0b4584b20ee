use Rattle.std.proofs.Common.{length}
use Rattle.sd_graph.specs.StatingLaws.{Continues}
use Rattle.csv_source.specs.Text.{field_steps}
use Rattle.csv_source.proofs.rows.add_fields.Given as goal

abbrev pub invariant-columns : goal.invariant-columns
invariant-columns l = Continues l.fn.graph (field_steps l.rules l.row l.name l.labels l.fields) l.graph (field_steps l.rules l.row l.name l.labels_left l.fields_left)

abbrev pub decreases-columns : goal.decreases-columns
decreases-columns l = length l.labels_left
