use Rattle.std.proofs.Common.{◌≡◌, ◌++◌, ◌+◌, length, take, map}
use Rattle.struql_ast.specs.Reading.{link_of}
use Rattle.schema.specs.Rows.{rows_in}
use Rattle.schema.proofs.edges.push_links.Given as goal

abbrev pub invariant-loop-link : goal.invariant-loop-link
invariant-loop-link l = l.edges.items ≡ l.initial.edges.items ++ rows_in (length l.initial.edges.items + 1) l.path l.conditions (map link_of (take l.link-index l.links))
