use Rattle.std.proofs.Common.{drop}
use Rattle.sd_graph.specs.StatingLaws.{Continues}
use Rattle.sd_ddl.specs.Tables.{told_of}
use Rattle.sd_ddl.specs.Stops.{all_said}
use Rattle.sd_ddl.proofs.conflict.add_parts.Given as goal

abbrev pub invariant-loop-part : goal.invariant-loop-part
invariant-loop-part l =
    Continues l.fn.graph (all_said (told_of l.kinds) l.parts) l.graph (all_said (told_of l.kinds) (drop l.part-index l.parts))
