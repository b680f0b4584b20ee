use Rattle.std.proofs.Common.{◌≡◌, take}
use Rattle.clap.specs.Simple.{app_of}
use Rattle.command_words.proofs.Subcommands.{with_commands}
use Rattle.command_words.proofs.program.program.Given as goal

abbrev pub invariant-loop-command : goal.invariant-loop-command
invariant-loop-command l = app_of l.program ≡ with_commands (take l.command-index l.command-items)
