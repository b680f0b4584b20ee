-- The first line of a request as it is shown.
use Rattle.std.proofs.Common.{◌≡◌, ℕ, List, [], ◌∷◌, refl, length, ◌<◌, codes, arith}
use Rattle.std.specs.Prelude.{flat_map}
use Rattle.access_line.specs.Line.{shown_request, shown_byte}

-- a request that is not empty is shown byte by byte
pub shown_some : (request : List ℕ) → 0 < length request → shown_request request ≡ flat_map shown_byte request
shown_some [] some = absurd (omega (arith, some))
shown_some (b ∷ request) some = refl

pub shown_none : (request : List ℕ) → length request ≡ 0 → shown_request request ≡ codes "-"
shown_none [] none = refl
shown_none (b ∷ request) none = absurd (omega (arith, none))
