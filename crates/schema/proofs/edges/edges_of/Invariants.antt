use Rattle.std.proofs.Common.{◌≡◌, take, map}
use Rattle.query_blocks.specs.Blocks.{body_of}
use Rattle.site_spec.specs.Schema.{edges_from}
use Rattle.schema.specs.Rows.{row}
use Rattle.schema.proofs.edges.edges_of.Given as goal

abbrev pub invariant-loop-i : goal.invariant-loop-i
invariant-loop-i l = l.edges.items ≡ map (row l.fn.version) (edges_from 1 (take l.i l.paths) (map body_of (take l.i l.blocks)))
