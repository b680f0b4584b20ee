-- The integrity constraints of a file, over a query.
use Rattle.std.specs.Prelude.{◌≡◌, ℕ, List, Result, Ok, Err, Option, Some, None, ⊤}
use Rattle.std.specs.Global.{Vec}
use Rattle.edge_io.specs.Files.{FileMap}
use Rattle.command_spec.specs.Limits.{text_limit}
use Rattle.query_spec.specs.Query.{Query}
use Rattle.constraint_spec.specs.declared.Constraint.{Constraint}
use Rattle.constraints.specs.declared.refusal.ConstraintRefusal.{ConstraintRefusal}
use Rattle.constraints.specs.declared.refusal.ConstraintRefusal.TheVariants as constraints
use Rattle.constraints.specs.Constraints.{Reads}
use Rattle.run_report.specs.declared.status.Place.TheVariants.{At}
use Rattle.site_inputs.specs.declared.fault.Fault.{Fault}
use Rattle.site_inputs.specs.declared.fault.Fault.TheVariants.{Refused, NoMemory}
use Rattle.data_source.specs.declared.numbered.NumberedFault.{NumberedFault}
use Rattle.site_inputs.specs.Runs.{Then, FileEnds}
use Rattle.data_source.specs.Numbered.{text_told}

-- the number and the place of a refused text of constraints; none where it was out of memory
abbrev pub constraints_told : ConstraintRefusal → Option NumberedFault
constraints_told (constraints.Text refusal) = text_told 101 refusal
constraints_told (constraints.UnknownFunction at) = Some (record { number = 102; at = at })
constraints_told (constraints.RootHasArguments at) = Some (record { number = 103; at = at })

-- How a text of constraints ends: with the constraints over the query, or refused.
abbrev pub ConstraintsTaken : Query → List ℕ → List ℕ → Result (List Constraint) Fault → Type 0
ConstraintsTaken query path bytes (Ok found) = Reads query text_limit bytes (Ok found)
ConstraintsTaken query path bytes (Err (Refused refusal)) =
    (told : NumberedFault) × (refusal ≡ record { file = path; number = told.number; place = At told.at })
    × (e : ConstraintRefusal) × Reads query text_limit bytes (Err e)
    × (constraints_told e ≡ Some told)
ConstraintsTaken query path bytes (Err NoMemory) = ⊤
ConstraintsTaken query path bytes (Err fault) = ⊥

-- How the file of constraints ends: it is read, and then its text is taken.
abbrev pub ConstraintsEnd
    : Query → FileMap → List ℕ → Result (List Constraint) Fault → Type 0
ConstraintsEnd query map path =
    Then (FileEnds text_limit map path) (ConstraintsTaken query path)

-- constraints as a plain list, or the same fault
abbrev pub constraints_result
    : Result (Vec Constraint) Fault → Result (List Constraint) Fault
constraints_result (Ok found) = Ok found.items
constraints_result (Err fault) = Err fault
