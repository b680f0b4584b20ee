-- The commands `help` and `version`: a fixed text.
use Rattle.std.specs.Prelude.{ℕ, List, Result}
use Rattle.command_spec.specs.declared.HelpCommand.{HelpCommand}
use Rattle.site_inputs.specs.declared.fault.Fault.{Fault}
use Rattle.site_inputs.specs.Runs.{EndsWith}
use Rattle.command_help.specs.Texts.{usage_of, version_text}

-- How `help` ends: with the usage of the program, or of the command that is named.
abbrev pub HelpEnds : HelpCommand → Result (List ℕ) Fault → Type 0
HelpEnds command = EndsWith (usage_of command.name)

-- How `version` ends: with the version of the program and of its kit.
abbrev pub VersionEnds : Result (List ℕ) Fault → Type 0
VersionEnds = EndsWith version_text
