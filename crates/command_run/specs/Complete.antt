-- Commands that write files or serve connections end well where their inputs are accepted and nothing outside fails.
use Rattle.std.specs.Prelude.{⊤}
use Rattle.run_report.specs.declared.status.Status.{Status}
use Rattle.command_spec.specs.Inputs.{inputs_of_command}
use Rattle.command_spec.specs.declared.Command.{Command}
use Rattle.command_spec.specs.declared.Command.TheVariants.{Build, Serve, Replay}
use Rattle.site_inputs.specs.Outside.{Outside, AllRead}
use Rattle.command_build.specs.Law.{BuildFollows}
use Rattle.command_serve.specs.Law.{ServingFollows}
use Rattle.command_replay.specs.Law.{ReplayFollows}

-- what the inputs decide of a command that is answered by files or by replies
abbrev pub Follows : Command → (before after : Outside) → Status → Type 0
Follows (Build command) before after reached =
    BuildFollows command before.host after.host reached
Follows (Serve command) before after reached =
    ServingFollows command before after reached
Follows (Replay command) before after reached =
    ReplayFollows command before.host after.host reached
Follows command before after reached = ⊤

-- Where each of the command's files could be read, its inputs decide how the run ends that nothing outside fails.
abbrev pub IsComplete : Command → (before after : Outside) → Status → Type 0
IsComplete command before after reached =
    AllRead (inputs_of_command command) before.host after.host
    → Follows command before after reached
