use Rattle.std.proofs.Common.{◌≡◌, drop, map}
use Rattle.std.specs.List.{list_any}
use Rattle.struql_ast.specs.Reading.{term_of}
use Rattle.edit_footprint.specs.Rests.{is_of}
use Rattle.edit_footprint.proofs.blocks.some_term.Given as goal

abbrev pub invariant-loop-term : goal.invariant-loop-term
invariant-loop-term l = list_any (is_of l.function) (map term_of (drop l.term-index l.terms)) ≡ list_any
    (is_of l.function) (map term_of l.terms)
