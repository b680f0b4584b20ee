-- The same lines, by what the engine keeps of a query.
use Rattle.std.specs.Prelude.{ℕ, List, ◌++◌, codes}
use Rattle.std.specs.Fmt.{decimal}
use Rattle.query_spec.specs.Query.{Body}
use Rattle.struql_ast.specs.Reading.{term_of}
use Rattle.constraint_spec.specs.declared.Constraint.{Constraint}
use Rattle.constraint_spec.specs.Placed.{links_of}
use Rattle.constraint_spec.specs.Certificate.{Certificate}
use Rattle.certificate_text.specs.declared.terms.WrittenTerm.{WrittenTerm}
use Rattle.certificate_text.specs.Lines.{PlacedTerm, variables_of_links, placed_terms, proof_lines}
use Rattle.certificate_text.specs.Lines.{function_of}

-- a term without its place in the text
abbrev pub placed_of : WrittenTerm → PlacedTerm
placed_of t = record { path = t.path.now; term = term_of t.term.now }

-- `K yes` and the lines of a certificate, on a query's blocks with these paths
abbrev pub yes_text_by
    : ℕ → List (List ℕ) → List Body → ℕ → Constraint → Certificate → List ℕ
yes_text_by version paths bodies number c proofs =
    decimal number ++ (codes " yes\n"
    ++ proof_lines
    (variables_of_links (links_of (record { version = version; bodies = bodies })))
    (placed_terms (function_of c) paths bodies) proofs)
