-- The command `data`: the canonical text of the data.
use Rattle.std.specs.Prelude.{ℕ, List, Result}
use Rattle.edge_io.specs.Files.{FileMap}
use Rattle.sd_ddl.specs.Written.{graph_text}
use Rattle.command_spec.specs.declared.DataCommand.{DataCommand}
use Rattle.site_inputs.specs.declared.fault.Fault.{Fault}
use Rattle.site_inputs.specs.Runs.{Then, EndsWith}
use Rattle.site_inputs.specs.Sites.{DataInputsEnd}

-- How the command ends: with the text of the graph of the data, which are what all data files state or, over a first query,
-- its site.
abbrev pub DataEnds : FileMap → DataCommand → Result (List ℕ) Fault → Type 0
DataEnds map command =
    Then (DataInputsEnd map command.sources command.over) (λ found. EndsWith (graph_text found.graph))
