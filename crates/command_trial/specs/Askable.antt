-- A target that can be asked for.
use Rattle.std.specs.Prelude.{◌≡◌, ◌≤◌, ◌<◌, ℕ, Bool, true, ◌&&◌, nat_lt, List, length}
use Rattle.std.specs.List.{list_all}

-- a visible byte of ASCII
abbrev pub is_visible : ℕ → Bool
is_visible byte = nat_lt 32 byte && nat_lt byte 127

-- some visible bytes, so few that a request for them is short enough
pub record IsAskable (target : List ℕ) : Type 0 where
  pub some : 0 < length target
  pub few : length target ≤ 1000
  pub visible : list_all is_visible target ≡ true
