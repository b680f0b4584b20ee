-- What the search back from a term has.
use Rattle.std.specs.Prelude.{List, ◌++◌, map}
use Rattle.query_spec.specs.Query.{Operand, SkolemTerm}
use Rattle.struql_ast.specs.Reading.{term_of}
use Rattle.constraint_recheck.specs.Search.{Reached}
use Rattle.certificate_search.specs.declared.sources.ReachedTerm.{ReachedTerm}

-- a reached term without its place, and the uses that lead back to it
abbrev pub reached_of : ReachedTerm → Reached
reached_of r = record { term = term_of r.term; uses = r.uses.items }

-- the term with each of these lists of arguments behind its own
abbrev pub with_args : SkolemTerm → List (List Operand) → List SkolemTerm
with_args s =
    map (λ more. record { function = s.function; args = s.args ++ more })
