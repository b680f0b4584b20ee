-- The causes of faults.
use Rattle.std.proofs.Common.{ℕ, List}
use Rattle.std.specs.Prelude.{Bool, Result, Ok, Err}
use Rattle.edge_io.specs.Counts.{NoneFell}
use Rattle.query_spec.specs.Query as plain
use Rattle.site_inputs.specs.declared.fault.Fault.{Fault}
use Rattle.site_inputs.specs.declared.fault.Fault.TheVariants.{Refused, Unread, Faulty, NotFound, NoMemory}
use Rattle.site_inputs.specs.Runs.{ReadsHaveCause}
use Rattle.command_schema.specs.Ends.{SchemaTaken}

-- taking the schema reads no file
pub taken_cause : (dot : Bool) (query : plain.Query) (paths : List (List ℕ)) (before now : List ℕ → ℕ) (result : Result (List ℕ) Fault) → NoneFell before now → SchemaTaken dot query result → ReadsHaveCause paths before now result
taken_cause dot query paths before now (Ok text) later taken = record { later = later; failed = tt }
taken_cause dot query paths before now (Err NoMemory) later taken = record { later = later; failed = tt }
taken_cause dot query paths before now (Err (Refused refusal)) later taken = absurd taken
taken_cause dot query paths before now (Err (Unread path)) later taken = absurd taken
taken_cause dot query paths before now (Err (Faulty term kind)) later taken = absurd taken
taken_cause dot query paths before now (Err NotFound) later taken = absurd taken
