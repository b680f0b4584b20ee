use Rattle.std.proofs.Common.{◌≡◌, [], ◌∷◌, ◌++◌, take}
use Rattle.std.specs.List.{flat_map}
use Rattle.struql_ast.specs.Reading.{term_of}
use Rattle.query_links.specs.Mentions.{plain_terms, of_function}
use Rattle.query_links.proofs.written.add_terms.Given as goal

abbrev pub invariant-loop-term : goal.invariant-loop-term
invariant-loop-term l =
    plain_terms l.found.items ≡ plain_terms l.initial.found.items ++ flat_map (λ t. of_function l.function (term_of t ∷ [])) (take l.term-index l.terms)
