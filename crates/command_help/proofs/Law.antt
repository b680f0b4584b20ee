-- Each of the two commands has one answer.
use Rattle.command_spec.specs.declared.HelpCommand.{HelpCommand}
use Rattle.site_inputs.specs.Runs.{Decides}
use Rattle.site_inputs.proofs.Decided.{gives_decides}
use Rattle.command_help.specs.Texts.{usage_of, version_text}
use Rattle.command_help.specs.Ends.{HelpEnds, VersionEnds}

pub help_decides : (command : HelpCommand) → Decides (HelpEnds command)
help_decides command = gives_decides (usage_of command.name)

pub version_decides : Decides VersionEnds
version_decides = gives_decides version_text
