-- The first fault of names by the ascending list of a query's functions is that of the definition.
use Rattle.std.proofs.Common.{◌≡◌, List, subst}
use Rattle.std.specs.List.{flat_map}
use Rattle.sd_value.specs.Ascending.{ListsExactly}
use Rattle.query_spec.specs.Query.{Body, Query, blocks_in_scope}
use Rattle.site_spec.specs.Schema.{IsFunction}
use Rattle.schema.specs.declared.SchemaFunction.{SchemaFunction}
use Rattle.schema.specs.Orders.{function_cmp}
use Rattle.schema.specs.Rows.{IsFunctionIn}
use Rattle.constraints.specs.declared.reading.Phrase.{Phrase}
use Rattle.constraints.specs.Names.{names_in, FirstFaulty}
use Rattle.constraints.specs.Known.{first_from}
use Rattle.constraints.proofs.Names.{first_is}

pub first_faulty : (q : Query) (bodies : List Body) (functions : List SchemaFunction) (phrases : List Phrase) → bodies ≡ blocks_in_scope q
    → ListsExactly function_cmp (IsFunctionIn bodies) functions → FirstFaulty q phrases (first_from functions (flat_map names_in phrases))
first_faulty q bodies functions phrases same lists =
    let listed = subst (λ bs. ListsExactly function_cmp (IsFunctionIn bs) functions) same lists in
    first_is functions (IsFunction q) listed.sound (λ name arity known. listed.complete (record { name = name; arity = arity }) known) (flat_map names_in phrases)
