-- The text of each command that is answered by one.
use Rattle.std.specs.Prelude.{ℕ, List, Result}
use Rattle.edge_io.specs.Files.{FileMap}
use Rattle.command_spec.specs.declared.TextCommand.{TextCommand}
use Rattle.command_spec.specs.declared.TextCommand.TheVariants.{Page, Data, Explain, Schema, Trial, Help, Version}
use Rattle.site_inputs.specs.declared.fault.Fault.{Fault}
use Rattle.command_page.specs.Ends.{PageEnds}
use Rattle.command_data.specs.Ends.{DataEnds}
use Rattle.command_explain.specs.Ends.{ExplainEnds}
use Rattle.command_schema.specs.Ends.{SchemaEnds}
use Rattle.command_trial.specs.Ends.{TrialEnds}
use Rattle.command_help.specs.Ends.{HelpEnds, VersionEnds}

-- the answer of a command: the text that it writes, or the fault that it ends with
abbrev pub TextAnswers : FileMap → TextCommand → Result (List ℕ) Fault → Type 0
TextAnswers map (Page command) = PageEnds map command
TextAnswers map (Data command) = DataEnds map command
TextAnswers map (Explain command) = ExplainEnds map command
TextAnswers map (Schema command) = SchemaEnds map command
TextAnswers map (Trial command) = TrialEnds command
TextAnswers map (Help command) = HelpEnds command
TextAnswers map Version = VersionEnds
