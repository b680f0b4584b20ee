use Rattle.std.proofs.Common.{map, take}
use Rattle.sd_graph.specs.Stating.{Leads}
use Rattle.sd_ddl.specs.Parts.{member_part}
use Rattle.sd_ddl.specs.Stops.{all_said}
use Rattle.sd_ddl.specs.Plain.{no_kinds}
use Rattle.sd_ddl.proofs.plain.add_members.Given as goal

abbrev pub invariant-loop-collection : goal.invariant-loop-collection
invariant-loop-collection l =
    Leads l.fn.graph (all_said no_kinds (map (member_part l.object) (take l.collection-index l.collections))) l.graph
