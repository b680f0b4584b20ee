use Rattle.std.proofs.Common.{◌≡◌, drop, map}
use Rattle.struql_ast.specs.Reading.{term_of}
use Rattle.query_blocks.specs.Roots.{first_root}
use Rattle.query_blocks.proofs.root.root_among.Given as goal

-- no term so far is without arguments
abbrev pub invariant-loop-term : goal.invariant-loop-term
invariant-loop-term l = first_root (map term_of (drop l.term-index l.creates.items)) ≡ first_root (map term_of l.creates.items)
