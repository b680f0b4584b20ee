-- A wire in memory of which no call fails but out of memory.
use Rattle.std.specs.Prelude.{◌≡◌, ℕ, false, []}
use Rattle.wire.specs.Told.{WireReport}
use Rattle.mem_wire.specs.WireInMemory.{WireInMemory, told_of, faults_in}

-- no call and no send is to fail, and no send failed while memory was refused for none
pub record IsSteady (w : WireInMemory) : Type 0 where
  pub calls : w.failing ≡ []
  pub sends : w.sends ≡ []
  pub fine : w.is_short ≡ false → (number : ℕ) → faults_in w number ≡ 0

-- what the wire reports, which is everything; no call of `listen`, `watch` or `next` has failed
abbrev pub steady_told : WireInMemory → WireReport
steady_told w = record (told_of w) { next_faults = 0 }
