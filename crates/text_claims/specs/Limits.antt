-- How far the texts reach whose claims are told.
use Rattle.std.specs.Prelude.{ℕ, ◌^◌, ◌-◌}

-- the last byte that 64 bits number
abbrev pub text_end : ℕ
text_end = 2 ^ 64 - 1
