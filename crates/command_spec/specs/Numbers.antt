-- The numbers of options whose value is one.
use Rattle.std.specs.Prelude.{ℕ, List, length, Bool, ◌&&◌, nat_le, Option, None, Some, if◌then◌else◌}
use Rattle.std.specs.List.{list_all}
use Rattle.std.specs.Char.{is_ascii_digit}
use Rattle.std.specs.Str.Parse.{digits_value}
use Rattle.command_spec.specs.Limits.{count_limit, port_limit, cache_limit, cache_bytes_limit}
use Rattle.command_spec.specs.Limits.{wait_limit, open_limit}
use Rattle.command_spec.specs.declared.numbers.NumberOption.{NumberOption}
use Rattle.command_spec.specs.declared.numbers.NumberOption.TheVariants.{Port, Connections, Requests, Turns, Cache, CacheBytes}
use Rattle.command_spec.specs.declared.numbers.NumberOption.TheVariants.{Idle, Stall, OpenAtOnce, Every}
use Rattle.command_spec.specs.declared.options.ValueOption.TheVariants.{Number}
use Rattle.command_spec.specs.Values.{Given}

-- the greatest number of the option, from 1 on
abbrev pub greatest : NumberOption → ℕ
greatest Port = port_limit
greatest Connections = count_limit
greatest Requests = count_limit
greatest Turns = count_limit
greatest Cache = cache_limit
greatest CacheBytes = cache_bytes_limit
greatest Idle = wait_limit
greatest Stall = wait_limit
greatest OpenAtOnce = open_limit
greatest Every = count_limit

-- what an option is if it isn't given
abbrev pub default_of : NumberOption → ℕ
default_of Port = 8080
default_of Connections = count_limit
default_of Requests = 1
default_of Turns = count_limit
default_of Cache = 256
default_of CacheBytes = 67108864
default_of Idle = 5000
default_of Stall = 10000
default_of OpenAtOnce = open_limit
default_of Every = 1

-- at most 10 digits
abbrev pub is_numeral : List ℕ → Bool
is_numeral text = nat_le (length text) 10 && list_all is_ascii_digit text

-- the value, where it is from 1 to `most`
abbrev pub within : ℕ → ℕ → Option ℕ
within most value = if nat_le 1 value && nat_le value most then Some value else None

-- a number of 1 to 10 digits, from 1 to `most`
abbrev pub number : ℕ → List ℕ → Option ℕ
number most text = if is_numeral text then within most (digits_value 10 text) else None

-- the number of an option with this text, or its default where it isn't given
abbrev pub number_or_default : NumberOption → Option (List ℕ) → Option ℕ
number_or_default option None = Some (default_of option)
number_or_default option (Some text) = number (greatest option) text

-- the number of the option: nothing where its text is no number in its range
abbrev pub number_of : NumberOption → Given → Option ℕ
number_of option given = number_or_default option (given (Number option))
