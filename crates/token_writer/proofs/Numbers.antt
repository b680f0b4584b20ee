-- The decimal form of a number spells it.
use Rattle.std.proofs.Common.{◌≡◌, ℕ, suc, ◌+◌, ◌*◌, ◌%◌, ◌-◌, ◌<◌, ◌≤◌, ◌^◌, Bool, true, false, nat_eq, nat_le, List, [], ◌∷◌, ◌++◌, Some, refl, sym, ap, ◌∙◌, inl, inr, arith}
use Rattle.std.specs.Prelude.{ℤ, pos, negsuc}
use Rattle.std.specs.Fmt.{decimal, signed_decimal}
use Rattle.std.specs.Int.Signed.{mag}
use Rattle.std.proofs.lemmas.Bool.{eqb-true}
use Rattle.std.proofs.lemmas.Fmt.{decimal_by_steps}
use Rattle.sd_lex.specs.Bytes.{is_digit, Each}
use Rattle.sd_lex.specs.Lexing.{IsDigits, IsNumber, int_of}
use Rattle.sd_lex.specs.Lexing as lexing

digit_is : (d : ℕ) → d < 10 → is_digit (48 + d) ≡ true
digit_is d less = search arith

value_push : (v : ℕ) (ds : List ℕ) (d : ℕ) → lexing.decimal v (ds ++ (48 + d) ∷ []) ≡ lexing.decimal v ds * 10 + d
value_push v [] d = omega arith
value_push v (c ∷ ds) d = value_push (v * 10 + (c - 48)) ds d

each_push : (ds : List ℕ) (d : ℕ) → Each is_digit ds → is_digit d ≡ true → Each is_digit (ds ++ d ∷ [])
each_push [] d h is = (is, tt)
each_push (c ∷ ds) d h is = (h.0, each_push ds d h.1 is)

digits_push : (ds : List ℕ) (d : ℕ) → IsDigits ds → is_digit d ≡ true → IsDigits (ds ++ d ∷ [])
digits_push [] d h is = absurd h
digits_push (c ∷ ds) d h is = (h.0, each_push ds d h.1 is)

pub decimal_spells : (n : ℕ) → n < 2 ^ 64 → IsDigits (decimal n) × (lexing.decimal 0 (decimal n) ≡ n)
decimal_spells =
    decimal_by_steps (λ n ds. IsDigits ds × (lexing.decimal 0 ds ≡ n))
    (λ n less. ((digit_is n less, tt), omega arith))
    (λ n ds large h. (digits_push ds (48 + n % 10) h.0 (digit_is (n % 10) (omega arith)), value_push 0 ds (n % 10) ∙ omega (arith, h.1)))

positive_is : (n : ℕ) → n < 2 ^ 63 → lexing.positive n ≡ Some (pos n)
positive_is n less =
    let fits : nat_le n 9223372036854775807 ≡ true = search arith in
    rw fits refl

digits_int : (ds : List ℕ) (n : ℕ) → IsDigits ds → lexing.decimal 0 ds ≡ n → n < 2 ^ 63 → int_of ds ≡ Some (pos n)
digits_int [] n h e less = absurd h
digits_int (b ∷ ds) n h e less = go (nat_eq b 45) refl
  where
    go : (m : Bool) → nat_eq b 45 ≡ m → int_of (b ∷ ds) ≡ Some (pos n)
    go true is =
        let no_digit : is_digit 45 ≡ true = ap is_digit (sym (eqb-true b 45 is)) ∙ h.0 in
        absurd cc
    go false is = rw is (ap lexing.positive e ∙ positive_is n less)

negative_is : (n : ℕ) → suc n ≤ 2 ^ 63 → lexing.negative (suc n) ≡ Some (negsuc n)
negative_is n le =
    let fits : nat_le (suc n) 9223372036854775808 ≡ true = search arith in
    rw fits refl

pub natural_spells : (n : ℕ) → n < 2 ^ 63 → IsNumber (decimal n) × (int_of (decimal n) ≡ Some (pos n))
natural_spells n less =
    let d = decimal_spells n (omega arith) in
    (inl d.0, digits_int (decimal n) n d.0 d.1 less)

pub negative_spells : (n : ℕ) → n < 2 ^ 63 → IsNumber (45 ∷ decimal (suc n)) × (int_of (45 ∷ decimal (suc n)) ≡ Some (negsuc n))
negative_spells n less =
    let d = decimal_spells (suc n) (omega arith) in
    (inr (decimal (suc n), refl, d.0), ap lexing.negative d.1 ∙ negative_is n (omega arith))

pub number_spells : (z : ℤ) → mag z < 2 ^ 63 → IsNumber (signed_decimal z) × (int_of (signed_decimal z) ≡ Some z)
number_spells (pos n) small = natural_spells n small
number_spells (negsuc n) small = negative_spells n small
