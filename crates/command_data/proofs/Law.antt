-- The inputs decide the text of the data.
use Rattle.edge_io.specs.Files.{FileMap}
use Rattle.sd_ddl.specs.Written.{graph_text}
use Rattle.command_spec.specs.declared.DataCommand.{DataCommand}
use Rattle.site_inputs.specs.Runs.{EndsWith, Decides}
use Rattle.site_inputs.specs.Sites.{DataInputsEnd}
use Rattle.site_inputs.proofs.Decided.{then_decides, gives_decides}
use Rattle.site_inputs.proofs.DecidedInputs.{data_decides}
use Rattle.command_data.specs.Ends.{DataEnds}

pub text_decides : (map : FileMap) (command : DataCommand) → Decides (DataEnds map command)
text_decides map command =
    then_decides (DataInputsEnd map command.sources command.over) (λ found. EndsWith (graph_text found.graph))
    (data_decides map command.sources command.over) (λ found. gives_decides (graph_text found.graph))
