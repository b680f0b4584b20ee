-- A field that is an integer's decimal form.
use Rattle.std.specs.Prelude.{◌≡◌, ◌^◌, ◌&&◌, ◌⊎◌, ◌<◌, ◌≤◌, ℕ, ℤ, pos, negsuc, IsTrue, length, Bool, true, false, nat_lt, nat_eq, List, [], ◌∷◌, Result, Ok, Err, ⊤}
use Rattle.std.proofs.Common.{arith, get_or, refl, sym, ◌∙◌, ap, subst, inl, inr, FitsSigned, w64}
use Rattle.std.specs.Cmp.Lexicographic.{pointwise, same_text, other_text}
use Rattle.std.specs.Cmp.Derive.{both_true}
use Rattle.std.specs.Fmt.{decimal, signed_decimal}
use Rattle.std.specs.Int.Signed.{mag}
use Rattle.std.specs.Ordering.{int_eq}
use Rattle.std.specs.Str.{IsUtf8}
use Rattle.std.specs.Str.Parse.{AllDigits, ParsesSigned, IsNumeral, without_leading_sign}
use Rattle.std.proofs.lemmas.Bool.{cases_Bool, ltb-true, lt-ltb}
use Rattle.std.proofs.lemmas.Bool.Decides.{Decides-int_eq}
use Rattle.std.proofs.lemmas.Fmt.{IsAscii-signed, decimal_is_IsNumeral, length_signed_le, parse-signed_decimal}
use Rattle.std.proofs.lemmas.Str.{IsUtf8-from_ascii}
use Rattle.std.proofs.lemmas.Str.Parse.{digit_from_value}
use Rattle.source_steps.specs.Fields.{Field, IsI64, number_of, is_integer, value_of, IsFieldValue}

both : (s t : Bool) → (s && t) ≡ true → (s ≡ true) × (t ≡ true)
both true t h = (refl, h)
both false t h = cc

-- what the test has told
integer_is : (f : Field) → is_integer f ≡ true → IsI64 (number_of f) × (f ≡ signed_decimal (number_of f))
integer_is f h =
    let p = both (pointwise nat_eq f (signed_decimal (number_of f))) (nat_lt (mag (number_of f)) (2 ^ 63)) h in
    (ltb-true (mag (number_of f)) (2 ^ 63) p.1, same_text f (signed_decimal (number_of f)) (sym p.0))

same_bytes : (xs ys : List ℕ) → xs ≡ ys → pointwise nat_eq xs ys ≡ true
same_bytes xs ys e = elim (cases_Bool (pointwise nat_eq xs ys)) [ inl is ↦ is | inr other ↦ absurd (other_text xs ys (sym other) e) ]

is_an_integer : (f : Field) → IsI64 (number_of f) → f ≡ signed_decimal (number_of f) → is_integer f ≡ true
is_an_integer f small e = both_true (same_bytes f (signed_decimal (number_of f)) e) (lt-ltb (mag (number_of f)) (2 ^ 63) small)

-- a decimal form reads as its number
number_back : (z : ℤ) → IsI64 z → number_of (signed_decimal z) ≡ z
number_back z small = elim (cases_Bool (int_eq v z)) [
  | inl is ↦ (Decides-int_eq v z).0 is
  | inr other ↦ absurd (none (λ p. differ other (numeral p)))
]
  where
    v : ℤ
    v = number_of (signed_decimal z)

    Reads : Type 0
    Reads = IsNumeral 10 (without_leading_sign (signed_decimal z)) × FitsSigned w64 v

    numeral : Reads → v ≡ z
    numeral p = let e : ◌≡◌ {A = Result ℤ ⊤} (Ok v) (Ok z) = parse-signed_decimal w64 z (signed_decimal z) (Ok v) (record { sfits = small }) small refl (p, refl) in cc

    none : (Reads → ⊥) → ⊥
    none h = let e : ◌≡◌ {A = Result ℤ ⊤} (Err tt) (Ok z) = parse-signed_decimal w64 z (signed_decimal z) (Err tt) (record { sfits = small }) small refl h in cc

    differ : int_eq v z ≡ false → v ≡ z → ⊥
    differ other e = let is = (Decides-int_eq v z).1 e in cc

-- a field that is no UTF-8, or that parses as no number, is no integer
pub not_text : (f : Field) → (IsUtf8 f → ⊥) → is_integer f ≡ false
not_text f none = elim (cases_Bool (is_integer f)) [
  | inl is ↦
      let p = integer_is f is in
      absurd (none (subst IsUtf8 (sym p.1) (IsUtf8-from_ascii (signed_decimal (number_of f)) (IsAscii-signed (number_of f) p.0))))
  | inr other ↦ other
]

pub not_parsed : {E : Type 0} (f : Field) (e : E) → ParsesSigned w64 10 f (Err e) → is_integer f ≡ false
not_parsed {E} f e h = elim (cases_Bool (is_integer f)) [
  | inl is ↦
      let p = integer_is f is in
      let wrong : ◌≡◌ {A = Result ℤ E} (Err e) (Ok (number_of f)) = parse-signed_decimal w64 (number_of f) f (Err e) (record { sfits = p.0 }) p.0 p.1 h in
      cc
  | inr other ↦ other
]

-- a field that parses is an integer exactly where it is how its number is written
pub written : (f : Field) → FitsSigned w64 (number_of f) → true ≡ pointwise nat_eq (signed_decimal (number_of f)) f → is_integer f ≡ true
written f fits same = is_an_integer f fits.sfits (sym (same_text (signed_decimal (number_of f)) f same))

pub has_value : (links : Bool) (f : Field) → IsFieldValue links f (value_of links f)
has_value links f = elim (cases_Bool (is_integer f)) [
  | inl is ↦ let p = integer_is f is in inl (number_of f, p.0, p.1, rw is refl)
  | inr other ↦ inr (none other, rw other refl)
]
  where
    none : is_integer f ≡ false → (z : ℤ) → IsI64 z → f ≡ signed_decimal z → ⊥
    none other z small e =
        let n : number_of f ≡ z = ap number_of e ∙ number_back z small in
        let is = is_an_integer f (subst IsI64 (sym n) small) (e ∙ ap signed_decimal (sym n)) in
        cc

-- its decimal form has at most 20 bytes, and begins with a digit or a minus
pub is_short : (f : Field) → is_integer f ≡ true → length f ≤ 20
is_short f is = let p = integer_is f is in omega (arith, ap length p.1, length_signed_le 19 (number_of f) (omega (arith, p.0)) p.0)

digit_first : (ds : List ℕ) → 0 < length ds → AllDigits 10 ds → (48 ≤ get_or ds 0 0) × (get_or ds 0 0 ≤ 57)
digit_first [] some digits = absurd (omega arith)
digit_first (c ∷ cs) some digits = digit_from_value c digits.0

begins : (z : ℤ) → IsI64 z → (0 < length (signed_decimal z)) × ((get_or (signed_decimal z) 0 0 ≡ 45) ⊎ ((48 ≤ get_or (signed_decimal z) 0 0) × (get_or (signed_decimal z) 0 0 ≤ 57)))
begins (pos n) small = let d = (decimal_is_IsNumeral n (omega (arith, small))).0 in (d.0, inr (digit_first (decimal n) d.0 d.1))
begins (negsuc n) small = (omega arith, inl refl)

pub is_begun : (f : Field) → is_integer f ≡ true → (0 < length f) × ((get_or f 0 0 ≡ 45) ⊎ ((48 ≤ get_or f 0 0) × (get_or f 0 0 ≤ 57)))
is_begun f is = let p = integer_is f is in subst (λ (g : Field). (0 < length g) × ((get_or g 0 0 ≡ 45) ⊎ ((48 ≤ get_or g 0 0) × (get_or g 0 0 ≤ 57)))) (sym p.1) (begins (number_of f) p.0)

-- what doesn't begin so, or is longer, is no integer
pub not_begun : (f : Field) (may : Bool) → (is_integer f ≡ true → IsTrue may) → may ≡ false → is_integer f ≡ false
not_begun f may only none = elim (cases_Bool (is_integer f)) [
  | inl is ↦ let yes = only is in cc
  | inr other ↦ other
]
