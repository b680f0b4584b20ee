-- When a watched file is looked at, and when it gives a change.
use Rattle.std.specs.Prelude.{◌≡◌, ◌≤◌, ◌-◌, ℕ, nat_le, Bool, true, false, List, length, Option, Some, None, if◌then◌else◌}
use Rattle.std.specs.Str.{bytes_eq}
use Rattle.tcp_wire.specs.declared.watch.Watch.{Watch}

-- the most bytes of the file that are read
abbrev pub most_read : ℕ
most_read = 67108865

-- the file is to be looked at, where so many connections have ended
abbrev pub is_due : (ended : ℕ) → Watch → Bool
is_due ended watch = nat_le watch.every (ended - watch.read_at)

-- the text is this one
abbrev pub is_text : List ℕ → Option (List ℕ) → Bool
is_text text None = false
is_text text (Some last) = bytes_eq last text

-- the text is what was read last
abbrev pub is_last : List ℕ → Watch → Bool
is_last text watch = is_text text watch.last

-- the file was looked at, where so many connections have ended
abbrev pub noted : (ended : ℕ) → Watch → Watch
noted ended watch = record watch { read_at = ended }

-- the file was looked at, if that was due, and gave no change
abbrev pub passed : (ended : ℕ) → Watch → Watch
passed ended watch = if is_due ended watch then noted ended watch else watch

-- the file was looked at, as was due, and holds this text, which is another than before
pub record IsChanged (ended : ℕ) (watch : Watch) (text : List ℕ) (after : Watch) : Type 0 where
  pub due : is_due ended watch ≡ true
  pub most : length text ≤ most_read
  pub other : is_last text watch ≡ false
  pub is : after ≡ record watch { read_at = ended; last = Some text }
