-- The file that a line of each reply is added to.
use Rattle.std.specs.Prelude.{ℕ, List, Option, None, Some}
use Rattle.command_spec.specs.declared.Command.{Command}
use Rattle.command_spec.specs.declared.Command.TheVariants.{Serve}

-- the log of a command: the one that its options name, if it is `serve` and they name one
abbrev pub command_log : Command → Option (List ℕ)
command_log (Serve command) = command.log
command_log command = None

-- that of the command that the words give, if any
abbrev pub given_log : Option Command → Option (List ℕ)
given_log (Some command) = command_log command
given_log None = None
