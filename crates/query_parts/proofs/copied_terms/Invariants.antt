use Rattle.std.proofs.Common.{◌≡◌, take}
use Rattle.std.specs.Prelude.{map}
use Rattle.struql_ast.specs.Reading.{term_of}
use Rattle.query_parts.proofs.copied_terms.Given as goal

abbrev pub invariant-loop-item : goal.invariant-loop-item
invariant-loop-item l = map term_of l.copies.items ≡ map term_of (take l.item-index l.terms)
