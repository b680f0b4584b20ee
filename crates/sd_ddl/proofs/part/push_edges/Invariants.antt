use Rattle.std.proofs.Common.{◌≡◌, ◌++◌, take, map}
use Rattle.sd_ddl.specs.Parts.{edge_part}
use Rattle.sd_ddl.proofs.part.push_edges.Given as goal

abbrev pub invariant-loop-field : goal.invariant-loop-field
invariant-loop-field l = l.parts.items ≡ l.fn.parts.items ++ map (edge_part l.object) (take l.field-index l.fields)
