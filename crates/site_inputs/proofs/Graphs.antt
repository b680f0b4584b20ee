-- One data file after another.
use Rattle.std.proofs.Common.{◌≡◌, ℕ, ◌+◌, ◌<◌, List, [], ◌∷◌, length, drop, get_or, inl, inr, refl, sym, ap, ◌∙◌}
use Rattle.std.proofs.lemmas.List.{drop_more}
use Rattle.std.specs.Prelude.{Result, Ok, Err}
use Rattle.edge_io.specs.Files.{FileMap}
use Rattle.graph_spec.specs.DataGraph.{DataGraph}
use Rattle.sd_graph.specs.Statement.{Building}
use Rattle.command_spec.specs.declared.DataFiles.{DataFiles}
use Rattle.data_source.specs.Rules.{rules_of}
use Rattle.data_source.specs.declared.rules.SourceRules.{SourceRules}
use Rattle.site_inputs.specs.Runs.{Then}
use Rattle.site_inputs.specs.Sources.{SourceEnds, FilesEnd, GraphEnds}
use Rattle.site_inputs.specs.declared.fault.Fault.{Fault}
use Rattle.site_inputs.specs.declared.fault.Fault.TheVariants.{NoMemory}

pub then_next : {A B : Type 0} (First : Result A Fault → Type 0) (Next : A → Result B Fault → Type 0) (value : A) (result : Result B Fault) → First (Ok value) → Next value result → Then First Next result
then_next First Next value (Ok b) first next = record { value = value; first = first; next = next }
then_next First Next value (Err fault) first next = inr (record { value = value; first = first; next = next })

-- the end of the files behind one that was taken is the end of all of them
pub graph_next : (rules : SourceRules) (map : FileMap) (b c : Building) (sources : List (List ℕ)) (i : ℕ) (path : List ℕ) (result : Result DataGraph Fault)
    → i < length sources → path ≡ get_or sources i path → SourceEnds rules map path b (Ok c) → FilesEnd rules map c (drop (i + 1) sources) result → FilesEnd rules map b (drop i sources) result
graph_next rules map b c sources i path result within is source ends =
    let split : drop i sources ≡ path ∷ drop (i + 1) sources = drop_more sources i path within ∙ ap (λ p. p ∷ drop (i + 1) sources) (sym is) in
    rw split (then_next (SourceEnds rules map path b) (λ d. FilesEnd rules map d (drop (i + 1) sources)) c result source ends)

-- where one file ends the run, all of them do
pub graph_fault : (rules : SourceRules) (map : FileMap) (b : Building) (sources : List (List ℕ)) (i : ℕ) (path : List ℕ) (fault : Fault)
    → i < length sources → path ≡ get_or sources i path → SourceEnds rules map path b (Err fault) → FilesEnd rules map b (drop i sources) (Err fault)
graph_fault rules map b sources i path fault within is source =
    let split : drop i sources ≡ path ∷ drop (i + 1) sources = drop_more sources i path within ∙ ap (λ p. p ∷ drop (i + 1) sources) (sym is) in
    rw split (inl source)

-- where all files are taken, it may be out of memory behind them
pub graph_no_memory : (rules : SourceRules) (map : FileMap) (b : Building) (paths : List (List ℕ)) (G : DataGraph) → FilesEnd rules map b paths (Ok G) → FilesEnd rules map b paths (Err NoMemory)
graph_no_memory rules map b [] G h = inr refl
graph_no_memory rules map b (path ∷ paths) G h =
    inr (record { value = h.value; first = h.first; next = graph_no_memory rules map h.value paths G h.next })

-- it may be out of memory before any file is read
none_read : (rules : SourceRules) (map : FileMap) (b : Building) (paths : List (List ℕ)) → FilesEnd rules map b paths (Err NoMemory)
none_read rules map b [] = inr refl
none_read rules map b (path ∷ paths) = inl (inl tt)

pub no_memory_first : (map : FileMap) (b : Building) (sources : DataFiles) → GraphEnds map b sources (Err NoMemory)
no_memory_first map b sources = none_read (rules_of sources.lenient) map b sources.paths
