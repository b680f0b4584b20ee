use Rattle.std.proofs.Common.{map, take}
use Rattle.sd_graph.specs.Stating.{Leads}
use Rattle.sd_ddl.specs.Parts.{edge_part}
use Rattle.sd_ddl.specs.Stops.{all_said}
use Rattle.sd_ddl.specs.Plain.{no_kinds}
use Rattle.sd_ddl.proofs.plain.add_fields.Given as goal

abbrev pub invariant-loop-field : goal.invariant-loop-field
invariant-loop-field l =
    Leads l.fn.graph (all_said no_kinds (map (edge_part l.object) (take l.field-index l.fields))) l.graph
