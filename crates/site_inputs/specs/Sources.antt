-- The data files, taken one after another, and the union of what they state.
use Rattle.std.specs.Prelude.{◌≡◌, ℕ, List, [], ◌∷◌, Result, Ok, Err, ⊤}
use Rattle.edge_io.specs.Files.{FileMap}
use Rattle.command_spec.specs.Limits.{data_limit, node_limit, edge_limit}
use Rattle.command_spec.specs.declared.DataFiles.{DataFiles}
use Rattle.graph_spec.specs.DataGraph.{DataGraph}
use Rattle.sd_graph.specs.Statement.{Building}
use Rattle.data_source.specs.Rules.{rules_of}
use Rattle.data_source.specs.Takes.{Takes}
use Rattle.data_source.specs.declared.rules.SourceRules.{SourceRules}
use Rattle.data_source.specs.declared.refusal.SourceRefusal.TheVariants as source
use Rattle.site_inputs.specs.declared.fault.Fault.{Fault}
use Rattle.site_inputs.specs.declared.fault.Fault.TheVariants.{Refused, NoMemory}
use Rattle.site_inputs.specs.declared.fault.Refusal.{Refusal}
use Rattle.site_inputs.specs.Runs.{Then, EndsWith, FileEnds}

-- a graph in which nothing is stated, with the program's limits
abbrev pub empty_building : Building
empty_building = record {
  limits = record { nodes = node_limit; edges = edge_limit };
  graph = record { nodes = []; edges = []; members = [] };
}

module _ (rules : SourceRules) where
  -- the file is refused for this, and leaves some graph
  pub record IsRefusedFor (path : List ℕ) (b : Building) (bytes : List ℕ)
      (refusal : Refusal) : Type 0 where
    pub left : Building
    pub takes : Takes rules path data_limit bytes b left (Err (source.Refused refusal.number refusal.place))
    pub its : refusal.file ≡ path

  -- How the bytes of a data file end, behind what the files before it state: with the graph that has what they state
  -- too, or refused. They are read by the format that the end of the path reports.
  abbrev pub TextTaken : List ℕ → Building → List ℕ → Result Building Fault → Type 0
  TextTaken path b bytes (Ok c) = Takes rules path data_limit bytes b c (Ok tt)
  TextTaken path b bytes (Err (Refused refusal)) = IsRefusedFor path b bytes refusal
  TextTaken path b bytes (Err NoMemory) = ⊤
  TextTaken path b bytes (Err fault) = ⊥

  -- How a data file ends: it is read, and then its bytes are taken.
  abbrev pub SourceEnds : FileMap → List ℕ → Building → Result Building Fault → Type 0
  SourceEnds map path b = Then (FileEnds data_limit map path) (TextTaken path b)

  -- each file behind those before it, and then the graph
  abbrev pub FilesEnd : FileMap → Building → List (List ℕ) → Result DataGraph Fault → Type 0
  FilesEnd map b [] = EndsWith b.graph
  FilesEnd map b (path ∷ paths) = Then (SourceEnds map path b) (λ c. FilesEnd map c paths)

-- How the data files of a command end: each is read as the command says.
abbrev pub GraphEnds : FileMap → Building → DataFiles → Result DataGraph Fault → Type 0
GraphEnds map b files = FilesEnd (rules_of files.lenient) map b files.paths

-- the building that a file leaves, with how it ended
abbrev pub with_building : Building → Result ⊤ Fault → Result Building Fault
with_building c (Ok u) = Ok c
with_building c (Err fault) = Err fault

-- the graph of what was gathered, or the same fault
abbrev pub graph_result : Result Building Fault → Result DataGraph Fault
graph_result (Ok b) = Ok b.graph
graph_result (Err fault) = Err fault
