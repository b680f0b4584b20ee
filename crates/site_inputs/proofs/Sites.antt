-- The inputs of a site.
use Rattle.std.proofs.Common.{◌≡◌, ℕ, List, Bor, inr, inl, refl}
use Rattle.std.specs.Prelude.{Result, Ok, Err, Option, Some, None, option_copied}
use Rattle.edge_io.specs.Files.{FileMap}
use Rattle.command_spec.specs.declared.DataFiles.{DataFiles}
use Rattle.query_spec.specs.Query as plain
use Rattle.tmpl.specs.Body.{TemplateFile}
use Rattle.address.specs.Targets.{root_name}
use Rattle.site_inputs.specs.declared.data.DataInputs.{DataInputs}
use Rattle.site_inputs.specs.declared.fault.Fault.{Fault}
use Rattle.site_inputs.specs.Runs.{Then, EndsWith}
use Rattle.site_inputs.specs.Sites.{DataInputsEnd, Inputs, data_of, InputsEnd, QueryEnds, TemplatesEnd}

-- the inputs with these data
abbrev pub inputs_with : DataInputs → plain.Query → TemplateFile → Inputs
inputs_with found query templates = record { graph = found.graph; first = found.first; query = query; templates = templates }

-- each input taken after those before it
module _ (map : FileMap) (sources : DataFiles) (over : Option (List ℕ)) (query_path templates_path : List ℕ) where
  abbrev pub InTurn : Result Inputs Fault → Type 0
  InTurn = Then (DataInputsEnd map sources over) (λ found. Then (QueryEnds map query_path) (λ query. Then (TemplatesEnd map templates_path) (λ templates. EndsWith (inputs_with found query templates))))

  pub in_turn : (result : Result Inputs Fault) → InputsEnd map sources over query_path templates_path result → InTurn result
  in_turn (Ok s) h =
      record { value = data_of s; first = h.data_are; next = record { value = s.query; first = h.query_is; next = record { value = s.templates; first = h.templates_are; next = inl refl } } }
  in_turn (Err fault) (inl refused) = inl refused
  in_turn (Err fault) (inr (inl (found, taken, refused))) = inr (record { value = found; first = taken; next = inl refused })
  in_turn (Err fault) (inr (inr (found, query, taken, checked, refused))) =
      inr (record { value = found; first = taken; next = inr (record { value = query; first = checked; next = inl refused }) })

pub root_copied : (root : Option (Bor (List ℕ))) → root_name root ≡ option_copied root
root_copied None = refl
root_copied (Some root) = refl
