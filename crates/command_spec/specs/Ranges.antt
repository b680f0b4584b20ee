-- The ranges in which the numbers of a command lie.
use Rattle.std.specs.Prelude.{ℕ, ◌≤◌, IfSome, ⊤}
use Rattle.command_spec.specs.Limits.{entry_limit, count_limit, port_limit, cache_limit, cache_bytes_limit}
use Rattle.command_spec.specs.Limits.{wait_limit, open_limit}
use Rattle.command_spec.specs.declared.RunLimits.{RunLimits}
use Rattle.command_spec.specs.declared.ServeOptions.{ServeOptions}
use Rattle.command_spec.specs.declared.ServeWaits.{ServeWaits}
use Rattle.command_spec.specs.declared.WatchOptions.{WatchOptions}
use Rattle.command_spec.specs.declared.Command.{Command}
use Rattle.command_spec.specs.declared.Command.TheVariants.{Text, Serve, Replay}
use Rattle.command_spec.specs.declared.TextCommand.{TextCommand}
use Rattle.command_spec.specs.declared.TextCommand.TheVariants.{Trial}

-- a number from 1 to `most`
abbrev pub IsFrom1To : ℕ → ℕ → Type 0
IsFrom1To most n = (1 ≤ n) × (n ≤ most)

-- the limits of a run are in their ranges
pub record AreLimits (limits : RunLimits) : Type 0 where
  pub requests : IsFrom1To count_limit limits.requests
  pub turns : IsFrom1To count_limit limits.turns
  pub cache : IsFrom1To cache_limit limits.cache
  pub cache_bytes : IsFrom1To cache_bytes_limit limits.cache_bytes

-- the waits of `serve` are in their ranges
pub record AreWaits (waits : ServeWaits) : Type 0 where
  pub idle : IsFrom1To wait_limit waits.idle
  pub stall : IsFrom1To wait_limit waits.stall
  pub at_once : IsFrom1To open_limit waits.at_once

-- the options of `serve` are in their ranges
pub record AreServeOptions (options : ServeOptions) : Type 0 where
  pub port : IsFrom1To port_limit options.port
  pub connections : IsFrom1To count_limit options.connections
  pub limits : AreLimits options.limits
  pub waits : AreWaits options.waits

-- the number of a watched file is in its range
abbrev pub IsWatchInRange : WatchOptions → Type 0
IsWatchInRange watch = IsFrom1To count_limit watch.every

-- the numbers of a command that is answered by a text are in their ranges
abbrev pub IsTextInRange : TextCommand → Type 0
IsTextInRange (Trial c) = IsFrom1To entry_limit c.entries
IsTextInRange c = ⊤

-- the numbers of the command are in their ranges
abbrev pub IsInRange : Command → Type 0
IsInRange (Text c) = IsTextInRange c
IsInRange (Serve c) = AreServeOptions c.options × IfSome c.watch IsWatchInRange
IsInRange (Replay c) = AreLimits c.limits
IsInRange c = ⊤
