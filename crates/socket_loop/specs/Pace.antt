-- How fast a connection gives or takes bytes, and when that is too slow. Times are in milliseconds.
use Rattle.std.specs.Prelude.{◌+◌, ◌-◌, ◌/◌, ◌^◌, ◌==◌, ◌||◌, ℕ, Bool, nat_lt, min, if◌then◌else◌}
use Rattle.socket_loop.specs.declared.pace.Pace.{Pace}

-- a wait that begins
abbrev pub started : (now : ℕ) → Pace
started now = record { begun = now; since = now; bytes = 0 }

-- a wait in which so many bytes came or were taken
abbrev pub gone_on : (now count : ℕ) → Pace → Pace
gone_on now count pace = record {
  begun = if pace.bytes == 0 then now else pace.begun;
  since = now;
  bytes = min (pace.bytes + count) (2 ^ 64 - 1);
}

-- how many bytes a millisecond a connection gives or takes at least
abbrev pub least_rate : ℕ
least_rate = 16

-- the time is over: nothing for longer than the limit, or less than the least rate after it
abbrev pub is_over : (limit now : ℕ) → Pace → Bool
is_over limit now pace =
    nat_lt limit (now - pace.since)
    || nat_lt (min (limit + pace.bytes / least_rate) (2 ^ 64 - 1)) (now - pace.begun)
