-- Digits around a mark.
use Rattle.std.proofs.Common.{rules, ◌≡◌, ℕ, ◌<◌, ◌≤◌, List, [], ◌∷◌, ◌++◌, length, drop, get_or, Bool, true, false, cond, eqb, ℤ, refl, sym, ap, ◌∙◌, subst, append_assoc, append-nil, length-append, arith, Option}
use Rattle.std.specs.Prelude.{◌||◌, ◌==◌, ⊤}
use Rattle.std.specs.Bool.{MatchBool}
use Rattle.std.specs.Char.{digit_value, is_ascii_digit}
use Rattle.std.specs.List.{list_any, list_all}
use Rattle.std.specs.Int.{w64}
use Rattle.std.specs.Int.RustNames.{FitsSigned}
use Rattle.std.specs.Str.Parse.{AllDigits, IsNumeral, digits_value, without_leading_sign}
use Rattle.std.proofs.lemmas.Bool.{false≢true}
use Rattle.std.proofs.lemmas.Bool.Decides.{nat_tests}
use Rattle.std.proofs.lemmas.Str.Parse.{digit_from_value, IsDigitsTest, IsNumeralModel, numerals_by_value}
use Rattle.value_texts.specs.Texts.{TextHolds}
use Rattle.value_texts.specs.declared.TextTest.TheVariants.{Has}
use Rattle.sd_value.specs.declared.Value.{Value}
use Rattle.function_spec.specs.Cuts.{IsFirstAt}
use Rattle.function_spec.specs.Functions.{IsInt, Decimals}
use Rattle.function_spec.specs.Numbers.{is_numeric, IsMark, HasDigits, IsDecimal, Spells, places, signed_as}
use Rattle.text_functions.specs.Told.{Tells}
use Rattle.text_functions.proofs.Found.{same_front, same_back}
use Rattle.text_functions.proofs.Telling.{told_as, filled_from}

digit_numeric : (b : ℕ) → digit_value b < 10 → is_numeric b ≡ true
digit_numeric b lt = let range = digit_from_value b lt in grind (arith, nat_tests, range.0, range.1)

abbrev AllNumeric : List ℕ → Type 0
AllNumeric [] = ⊤
AllNumeric (b ∷ bs) = (is_numeric b ≡ true) × AllNumeric bs

digits_numeric : (ds : List ℕ) → AllDigits 10 ds → AllNumeric ds
digits_numeric [] h = tt
digits_numeric (d ∷ ds) h = (digit_numeric d h.0, digits_numeric ds h.1)

-- a byte that is not numeric is not among the first that are
not_inside : (b : ℕ) (w f r q : List ℕ) → is_numeric b ≡ false → AllNumeric w → w ++ r ≡ f ++ (b ∷ q) → length w ≤ length f
not_inside b [] f r q non all e = omega arith
not_inside b (x ∷ w) [] r q non all e =
    let same : x ≡ b = ap (λ l. get_or l 0 0) e in
    absurd (false≢true (sym non ∙ ap is_numeric (sym same) ∙ all.0))
not_inside b (x ∷ w) (y ∷ f) r q non all e =
    let le = not_inside b w f r q non all.1 (ap (drop 1) e) in
    omega (arith, le)

or_first : (a b : Bool) → (a || b) ≡ false → a ≡ false
or_first true b e = e
or_first false b e = refl

first_at : (s w b : List ℕ) → IsMark s → AllDigits 10 w → IsFirstAt s (w ++ (s ++ b)) w b
first_at [] w b mark all = absurd (omega (arith, mark.0))
first_at (m ∷ s) w b mark all = record {
  whole = refl;
  first = λ f q e. not_inside m w f ((m ∷ s) ++ b) (s ++ q) (or_first (is_numeric m) (list_any is_numeric s) mark.1) (digits_numeric w all) e;
}

-- no mark is in digits
no_mark : (s w f b : List ℕ) → IsMark s → AllDigits 10 w → w ≡ f ++ (s ++ b) → ⊥
no_mark [] w f b mark all e = omega (arith, mark.0)
no_mark (m ∷ s) w f b mark all e =
    let le = not_inside m w f [] (s ++ b) (or_first (is_numeric m) (list_any is_numeric s) mark.1) (digits_numeric w all) (append-nil w ∙ e) in
    omega (arith, le, ap length e, length-append f (m ∷ (s ++ b)))

-- ---- without a sign

shorter : (s t front back : List ℕ) (b : ℕ) → IsFirstAt s (b ∷ t) (b ∷ front) back → IsFirstAt s t front back
shorter s t front back b h = record {
  whole = ap (drop 1) h.whole;
  first = λ f q e. let le = h.first (b ∷ f) q (ap (λ l. b ∷ l) e) in omega (arith, le);
}

unsigned_cons : (s t front back : List ℕ) (b : ℕ) → IsFirstAt s (b ∷ t) (b ∷ front) back → IsFirstAt s (without_leading_sign (b ∷ t)) (without_leading_sign (b ∷ front)) back
unsigned_cons s t front back b h =
    elim (eqb b 45) as (λ p. IsFirstAt s (cond p t (drop (cond (eqb b 43) 1 0) (b ∷ t))) (cond p front (drop (cond (eqb b 43) 1 0) (b ∷ front))) back) [
      | true ↦ shorter s t front back b h
      | false ↦ elim (eqb b 43) as (λ p. IsFirstAt s (drop (cond p 1 0) (b ∷ t)) (drop (cond p 1 0) (b ∷ front)) back) [
        | true ↦ shorter s t front back b h
        | false ↦ h
      ]
    ]

no_sign : (b : ℕ) (bs : List ℕ) → is_numeric b ≡ false → without_leading_sign (b ∷ bs) ≡ b ∷ bs
no_sign b bs non =
    let minus : eqb b 45 ≡ false = grind (arith, nat_tests, non) in
    let plus : eqb b 43 ≡ false = grind (arith, nat_tests, non) in
    rw (minus, plus) refl

first_unsigned : (s t front back : List ℕ) → IsMark s → IsFirstAt s t front back → IsFirstAt s (without_leading_sign t) (without_leading_sign front) back
first_unsigned [] t front back mark h = absurd (omega (arith, mark.0))
first_unsigned (m ∷ s) [] [] back mark h = h
first_unsigned (m ∷ s) (b ∷ t) [] back mark h =
    let same : b ≡ m = ap (λ l. get_or l 0 0) h.whole in
    let non = ap is_numeric same ∙ or_first (is_numeric m) (list_any is_numeric s) mark.1 in
    subst (λ u. IsFirstAt (m ∷ s) u [] back) (sym (no_sign b t non)) h
first_unsigned (m ∷ s) [] (f ∷ front) back mark h = absurd (omega (arith, ap length h.whole))
first_unsigned (m ∷ s) (b ∷ t) (f ∷ front) back mark h =
    let same : b ≡ f = ap (λ l. get_or l 0 0) h.whole in
    subst (λ g. IsFirstAt (m ∷ s) (without_leading_sign (b ∷ t)) (without_leading_sign (g ∷ front)) back) same
    (unsigned_cons (m ∷ s) t front back b (subst (λ g. IsFirstAt (m ∷ s) (b ∷ t) (g ∷ front) back) (sym same) h))

-- a text is a sign or nothing, and the text without it
signed_whole : (t : List ℕ) → (sign : List ℕ) × (t ≡ sign ++ without_leading_sign t)
signed_whole [] = ([], refl)
signed_whole (b ∷ bs) =
    elim (eqb b 45) as (λ p. (sign : List ℕ) × (b ∷ bs ≡ sign ++ cond p bs (drop (cond (eqb b 43) 1 0) (b ∷ bs)))) [
      | true ↦ (b ∷ [], refl)
      | false ↦ elim (eqb b 43) as (λ p. (sign : List ℕ) × (b ∷ bs ≡ sign ++ drop (cond p 1 0) (b ∷ bs))) [
        | true ↦ (b ∷ [], refl)
        | false ↦ ([], refl)
      ]
    ]

-- ---- the digits around a mark

abbrev IsSame : List ℕ → List ℕ → List ℕ → List ℕ → Type 0
IsSame w p front back = (w ≡ front) × (p ≡ back) × IsNumeral 10 w × IsNumeral 10 p

cut_same : (s u front back w p : List ℕ) → IsMark s → IsFirstAt s u front back → HasDigits s u w p → IsSame w p front back
cut_same s u front back w [] mark h has =
    absurd (no_mark s w front back mark has.1.1 (sym has.0 ∙ h.whole))
cut_same s u front back w (d ∷ ds) mark h has =
    let own = subst (λ x. IsFirstAt s x w (d ∷ ds)) (sym has.0) (first_at s w (d ∷ ds) mark has.1.1) in
    (same_front s u w (d ∷ ds) front back own h, same_back s u w (d ∷ ds) front back own h, has.1, has.2)

-- a text has these digits in one way
pub digits_same : (s u w p v q : List ℕ) → IsMark s → HasDigits s u w p → HasDigits s u v q → (w ≡ v) × (p ≡ q)
digits_same s u w [] v [] mark h k = (sym h.0 ∙ k.0, refl)
digits_same s u w [] v (d ∷ ds) mark h k = absurd (no_mark s w v (d ∷ ds) mark h.1.1 (sym h.0 ∙ k.0))
digits_same s u w (d ∷ ds) v q mark h k =
    let own = subst (λ x. IsFirstAt s x w (d ∷ ds)) (sym h.0) (first_at s w (d ∷ ds) mark h.1.1) in
    let same = cut_same s u w (d ∷ ds) v q mark own k in
    (sym same.0, sym same.1)

pub alone_none : (s t a : List ℕ) → ¬ (TextHolds Has t s) → a ≡ without_leading_sign t → ¬ (IsNumeral 10 a) → (w p : List ℕ) → HasDigits s (without_leading_sign t) w p → ⊥
alone_none s t a none is non w [] h = non (subst (IsNumeral 10) (sym (is ∙ h.0)) h.1)
alone_none s t a none is non w (d ∷ ds) h =
    let (sign, e) = signed_whole t in
    none (sign ++ w, d ∷ ds, e ∙ ap (λ x. sign ++ x) h.0 ∙ sym (append_assoc sign w (s ++ (d ∷ ds))))

module _ (s t front back : List ℕ) (mark : IsMark s) (h : IsFirstAt s t front back) (a b : List ℕ) (is : a ≡ without_leading_sign front) (bis : b ≡ back) where
  pub whole_none : ¬ (IsNumeral 10 a) → (w p : List ℕ) → HasDigits s (without_leading_sign t) w p → ⊥
  whole_none non w p has =
      let same = cut_same s (without_leading_sign t) (without_leading_sign front) back w p mark (first_unsigned s t front back mark h) has in
      non (subst (IsNumeral 10) (same.0 ∙ sym is) same.2)

  pub part_none : ¬ (IsNumeral 10 b) → (w p : List ℕ) → HasDigits s (without_leading_sign t) w p → ⊥
  part_none non w p has =
      let same = cut_same s (without_leading_sign t) (without_leading_sign front) back w p mark (first_unsigned s t front back mark h) has in
      non (subst (IsNumeral 10) (same.1 ∙ sym bis) same.3)

-- ---- the decimal

abbrev Makes : List ℕ → List ℕ → ℕ → Value → Type 0
Makes t s n v = (z : ℤ) × IsDecimal t s n z × IsInt z v

module _ (s t w p : List ℕ) (n : ℕ) (mark : IsMark s) (has : HasDigits s (without_leading_sign t) w p) where
  pub past_none : list_all (λ d. d == 48) (drop n p) ≡ false → (v : Value) → Makes t s n v → ⊥
  past_none non v (z, is, fits) =
      let same = digits_same s (without_leading_sign t) is.whole is.part w p mark is.spelled has in
      false≢true (sym non ∙ ap (λ x. list_all (λ d. d == 48) (drop n x)) (sym same.1) ∙ is.zeros)

  module _ (d : List ℕ) (made : d ≡ signed_as t (w ++ places n p)) where
    spelled : (z : ℤ) → IsDecimal t s n z → Spells d z
    spelled z is =
        let same = digits_same s (without_leading_sign t) is.whole is.part w p mark is.spelled has in
        subst (λ x. Spells x z) (ap (λ x. signed_as t (x ++ places n is.part)) same.0 ∙ ap (λ x. signed_as t (w ++ places n x)) same.1 ∙ sym made) is.value

    pub number_none : ((z : ℤ) → Spells d z → FitsSigned w64 z → ⊥) → (v : Value) → Makes t s n v → ⊥
    number_none none v (z, is, fits) = none z (spelled z is) fits.0

    pub decimal_told : list_all (λ x. x == 48) (drop n p) ≡ true → (m : ℤ) → Spells d m → (r : Option Value) → Tells (IsInt m) r → Tells (Makes t s n) r
    decimal_told zeros m is r told =
        let own : IsDecimal t s n m = record {
          whole = w;
          part = p;
          spelled = has;
          zeros = zeros;
          value = subst (λ x. Spells x m) made is;
        } in
        told_as r told (λ v q. (m, own, q)) (λ v q. subst (λ z. IsInt z v) ((spelled q.0 q.1).1 ∙ sym is.1) q.2)

pub decimals_told : (t s u m : List ℕ) (n : ℕ) (r : Option Value) → IsMark m → n ≤ 18 → Tells (Makes t s n) r → t ≡ u → s ≡ m → Tells (Decimals ((u, m), n)) r
decimals_told t s u m n r mark few told e d =
    told_as r (subst (λ x. Tells (Makes x m n) r) e (subst (λ x. Tells (Makes t x n) r) d told)) (λ v p. (mark, few, p)) (λ v q. q.2)

-- ---- what the tests tell

AreDigits : IsDigitsTest (λ t. list_all is_ascii_digit t ≡ true)
AreDigits = search rules

numerals : IsNumeralModel (λ t. list_all is_ascii_digit t ≡ true) (digits_value 10)
numerals = numerals_by_value (λ t. list_all is_ascii_digit t ≡ true) AreDigits

pub numeral_told : (t : List ℕ) (b e : Bool) → b ≡ list_all is_ascii_digit t → e ≡ (length t == 0) → e ≡ false → MatchBool b (IsNumeral 10 t) (¬ (IsNumeral 10 t))
numeral_told t true e all is empty = (filled_from t t e is empty refl, numerals.to t (sym all))
numeral_told t false e all is empty = λ n. false≢true (all ∙ numerals.from t n.1)
