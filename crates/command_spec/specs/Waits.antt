-- How long the wire of a run waits for a connection, in milliseconds, and for how many at once.
use Rattle.std.specs.Prelude.{Option, None, Some}
use Rattle.command_spec.specs.declared.numbers.NumberOption.TheVariants.{Idle, Stall, OpenAtOnce}
use Rattle.command_spec.specs.declared.ServeWaits.{ServeWaits}
use Rattle.command_spec.specs.declared.Command.{Command}
use Rattle.command_spec.specs.declared.Command.TheVariants.{Serve}
use Rattle.command_spec.specs.Numbers.{default_of}

-- the waits where no option says others
abbrev pub default_waits : ServeWaits
default_waits = record {
  idle = default_of Idle;
  stall = default_of Stall;
  at_once = default_of OpenAtOnce;
}

-- the waits of a command: those of its options, where it is `serve`
abbrev pub command_waits : Command → ServeWaits
command_waits (Serve command) = command.options.waits
command_waits command = default_waits

-- those of the command that the words give, if any
abbrev pub given_waits : Option Command → ServeWaits
given_waits (Some command) = command_waits command
given_waits None = default_waits
