use Rattle.std.proofs.Common.{◌≡◌, take}
use Rattle.std.specs.Prelude.{map}
use Rattle.struql_ast.specs.Reading.{collect_of}
use Rattle.query_parts.proofs.copied_collects.Given as goal

abbrev pub invariant-loop-item : goal.invariant-loop-item
invariant-loop-item l = map collect_of l.copies.items ≡ map collect_of (take l.item-index l.collects)
