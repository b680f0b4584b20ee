-- The causes of an explanation's faults.
use Rattle.std.proofs.Common.{ℕ, List, [], ◌∷◌, ◌++◌}
use Rattle.std.proofs.lemmas.List.Elements.{Contains-append_left, Contains-append_right}
use Rattle.std.specs.Prelude.{Contains, Result, Ok, Err}
use Rattle.edge_io.specs.Counts.{NoneFell}
use Rattle.graph_spec.specs.DataGraph.{DataGraph}
use Rattle.query_spec.specs.Query as plain
use Rattle.site_inputs.specs.declared.fault.Fault.{Fault}
use Rattle.site_inputs.specs.declared.fault.Fault.TheVariants.{Refused, Unread, Faulty, NotFound, NoMemory}
use Rattle.site_inputs.specs.Runs.{ReadsHaveCause}
use Rattle.command_explain.specs.Ends.{ExplainTaken}

-- making the plans reads no file
pub plans_cause : (graph : DataGraph) (query : plain.Query) (paths : List (List ℕ)) (before now : List ℕ → ℕ) (result : Result (List ℕ) Fault) → NoneFell before now → ExplainTaken graph query result → ReadsHaveCause paths before now result
plans_cause graph query paths before now (Ok text) later taken = record { later = later; failed = tt }
plans_cause graph query paths before now (Err NoMemory) later taken = record { later = later; failed = tt }
plans_cause graph query paths before now (Err (Refused refusal)) later taken = absurd taken
plans_cause graph query paths before now (Err (Unread path)) later taken = absurd taken
plans_cause graph query paths before now (Err (Faulty term kind)) later taken = absurd taken
plans_cause graph query paths before now (Err NotFound) later taken = absurd taken

pub of_data : (sources : List (List ℕ)) (query path : List ℕ) → Contains sources path → Contains (sources ++ (query ∷ [])) path
of_data sources query path h = Contains-append_left sources (query ∷ []) path h

pub of_query : (sources : List (List ℕ)) (query path : List ℕ) → Contains (query ∷ []) path → Contains (sources ++ (query ∷ [])) path
of_query sources query path h = Contains-append_right sources (query ∷ []) path h
