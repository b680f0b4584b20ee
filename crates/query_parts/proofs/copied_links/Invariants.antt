use Rattle.std.proofs.Common.{◌≡◌, take}
use Rattle.std.specs.Prelude.{map}
use Rattle.struql_ast.specs.Reading.{link_of}
use Rattle.query_parts.proofs.copied_links.Given as goal

abbrev pub invariant-loop-item : goal.invariant-loop-item
invariant-loop-item l = map link_of l.copies.items ≡ map link_of (take l.item-index l.links)
