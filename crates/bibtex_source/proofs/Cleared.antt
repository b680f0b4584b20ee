-- A text with blanks for what is passed over has each byte at its place.
use Rattle.std.proofs.Common.{◌≡◌, ℕ, Bool, true, false, List, [], ◌∷◌, length, refl, arith}
use Rattle.std.specs.Prelude.{◌&&◌, nat_eq, if◌then◌else◌}
use Rattle.bibtex_spec.specs.declared.Spot.{Spot}
use Rattle.bibtex_spec.specs.Clear.{ends_line, takes_comments, passed, cleared_from}

one_more : (p : Bool) (a b : ℕ) (xs ys bytes : List ℕ) → length xs ≡ length bytes → length ys ≡ length bytes → length (if p then a ∷ xs else b ∷ ys) ≡ length (b ∷ bytes)
one_more true a b xs ys bytes h k = omega (arith, h)
one_more false a b xs ys bytes h k = omega (arith, k)

pub as_long : (comment : Bool) (spot : Spot) (bytes : List ℕ) → length (cleared_from comment spot bytes) ≡ length bytes
as_long true spot [] = refl
as_long false spot [] = refl
as_long true spot (b ∷ bytes) =
    one_more (ends_line b) b 32 (cleared_from false spot bytes) (cleared_from true spot bytes) bytes (as_long false spot bytes) (as_long true spot bytes)
as_long false spot (b ∷ bytes) =
    one_more (takes_comments spot && nat_eq b 37) 32 (passed spot b bytes).0 (cleared_from true spot bytes) (cleared_from false (passed spot b bytes).1 bytes) bytes
    (as_long true spot bytes) (as_long false (passed spot b bytes).1 bytes)
