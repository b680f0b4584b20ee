use Rattle.std.proofs.Common.{◌≡◌, ◌++◌, take}
use Rattle.struql_ast.specs.Reading.{blocks_of}
use Rattle.site_spec.specs.Paths.{paths_from}
use Rattle.schema.proofs.paths.+push_paths.Given as goal

abbrev pub invariant-loop-i : goal.invariant-loop-i
invariant-loop-i l = l.found.items ≡ l.initial.found.items ++ paths_from l.front 1 (blocks_of (take l.i l.blocks))
