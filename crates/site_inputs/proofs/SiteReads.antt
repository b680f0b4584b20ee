-- Reads of a site's inputs.
use Rattle.std.proofs.Common.{◌≡◌, ℕ, List, sym, subst}
use Rattle.std.specs.Prelude.{Option, Result, Ok, Err}
use Rattle.edge_io.specs.Files.{FileMap}
use Rattle.graph_spec.specs.DataGraph.{DataGraph}
use Rattle.query_spec.specs.Query as plain
use Rattle.happenings.specs.Happening.{Happening}
use Rattle.command_spec.specs.Inputs.{data_paths}
use Rattle.command_spec.specs.declared.DataFiles.{DataFiles}
use Rattle.site_inputs.specs.declared.data.DataInputs.{DataInputs}
use Rattle.site_inputs.specs.declared.fault.Fault.{Fault}
use Rattle.site_inputs.specs.declared.fault.Fault.TheVariants.{Refused, Unread, Faulty, NotFound, NoMemory}
use Rattle.site_inputs.specs.Reads.{Reads}
use Rattle.site_inputs.specs.Sites.{SiteTaken, DataInputsEnd}
use Rattle.site_inputs.proofs.ReadLemmas.{IsRead}

-- the same of the first query that is given
pub over_reads : (sources : DataFiles) (over is : Option (List ℕ)) (before now : List Happening) (contents : Option FileMap) (result : Result DataInputs Fault) → over ≡ is
    → Reads (data_paths sources is) before now contents result (λ m. DataInputsEnd m sources is result) → Reads (data_paths sources over) before now contents result (λ m. DataInputsEnd m sources over result)
over_reads sources over is before now contents result same h =
    subst (λ (o : Option (List ℕ)). Reads (data_paths sources o) before now contents result (λ m. DataInputsEnd m sources o result)) (sym same) h

-- the first query's site reads no file
pub site_is_read : (path : List ℕ) (raw : DataGraph) (first : plain.Query) (result : Result DataInputs Fault) → SiteTaken path raw first result → IsRead result
site_is_read path raw first (Ok found) taken = tt
site_is_read path raw first (Err (Refused refusal)) taken = tt
site_is_read path raw first (Err (Unread unread)) taken = taken
site_is_read path raw first (Err NoMemory) taken = tt
site_is_read path raw first (Err NotFound) taken = tt
site_is_read path raw first (Err (Faulty term kind)) taken = tt
