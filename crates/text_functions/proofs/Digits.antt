-- A number that is spelled has a text of ASCII.
use Rattle.std.proofs.Common.{◌≡◌, ℕ, ◌<◌, List, [], ◌∷◌, cond, drop, true, false, eqb, ℤ, arith, refl}
use Rattle.std.specs.Str.{IsAscii, IsUtf8}
use Rattle.std.specs.Str.Parse.{AllDigits, without_leading_sign}
use Rattle.std.proofs.lemmas.Bool.{eqb-true}
use Rattle.std.proofs.lemmas.Fmt.{IsAscii-from_digits}
use Rattle.std.proofs.lemmas.Str.{IsAscii-append, IsUtf8-from_ascii}
use Rattle.function_spec.specs.Numbers.{Spells}

one : (b : ℕ) → b < 128 → IsAscii (b ∷ [])
one b lt ℕ.zero = lt
one b lt (ℕ.suc i) = omega arith

lead : (b : ℕ) (bs : List ℕ) → b < 128 → IsAscii bs → IsAscii (b ∷ bs)
lead b bs lt h = IsAscii-append (b ∷ []) bs (one b lt) h

none : IsAscii []
none i = omega arith

unsigned : (b : ℕ) (bs : List ℕ) → AllDigits 10 (drop (cond (eqb b 43) 1 0) (b ∷ bs)) → IsAscii (b ∷ bs)
unsigned b bs =
    elim (eqb b 43) as (λ p. eqb b 43 ≡ p → AllDigits 10 (drop (cond p 1 0) (b ∷ bs)) → IsAscii (b ∷ bs)) [
      | true ↦ λ e h. let is = eqb-true b 43 e in lead b bs (omega (arith, is)) (IsAscii-from_digits bs h)
      | false ↦ λ e h. IsAscii-from_digits (b ∷ bs) h
    ] refl

signed : (b : ℕ) (bs : List ℕ) → AllDigits 10 (without_leading_sign (b ∷ bs)) → IsAscii (b ∷ bs)
signed b bs =
    elim (eqb b 45) as (λ p. eqb b 45 ≡ p → AllDigits 10 (cond p bs (drop (cond (eqb b 43) 1 0) (b ∷ bs))) → IsAscii (b ∷ bs)) [
      | true ↦ λ e h. let is = eqb-true b 45 e in lead b bs (omega (arith, is)) (IsAscii-from_digits bs h)
      | false ↦ λ e h. unsigned b bs h
    ] refl

-- what spells a number is text
pub spelled_is_text : (t : List ℕ) (z : ℤ) → Spells t z → IsUtf8 t
spelled_is_text [] z h = IsUtf8-from_ascii [] none
spelled_is_text (b ∷ bs) z h = IsUtf8-from_ascii (b ∷ bs) (signed b bs h.0.1)
