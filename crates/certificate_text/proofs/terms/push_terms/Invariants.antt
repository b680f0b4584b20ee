use Rattle.std.proofs.Common.{◌≡◌, ◌++◌, [], ◌∷◌, take, map}
use Rattle.std.specs.List.{flat_map}
use Rattle.struql_ast.specs.Reading.{term_of}
use Rattle.certificate_text.specs.Lines.{terms_named}
use Rattle.certificate_text.specs.Written.{placed_of}
use Rattle.certificate_text.proofs.terms.push_terms.Given as goal

abbrev pub invariant-loop-term : goal.invariant-loop-term
invariant-loop-term l = map placed_of l.found.items ≡ map placed_of l.initial.found.items ++ terms_named l.function l.path (flat_map (λ t. term_of t ∷ []) (take l.term-index l.terms))
