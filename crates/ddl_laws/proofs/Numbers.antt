-- A number, as it is written, is read again.
use Rattle.std.proofs.Common.{◌≡◌, refl, ap, ◌∙◌, inl, inr, ℕ, ◌<◌, ◌^◌, true, false, List, [], ◌∷◌, length, arith, rules, Some, None, if◌then◌else◌, suc}
use Rattle.std.specs.Prelude.{ℤ, pos, negsuc, nat_eq}
use Rattle.std.specs.Fmt.{signed_decimal, decimal}
use Rattle.std.proofs.lemmas.Fmt.{digits_decimal, digits_value-decimal, decimal_nonempty}
use Rattle.std.proofs.lemmas.Str.Parse.{IsNumeralModel, numerals_by_fold}
use Rattle.std.proofs.lemmas.Bool.{le-leb}
use Rattle.sd_lex.specs.declared.token.TokenKind.TheVariants as kinds
use Rattle.sd_lex.specs.Bytes.{Each, is_digit}
use Rattle.sd_lex.specs.Lexing.{Spells, IsNumber, IsDigits, int_of}
use Rattle.sd_lex.specs.Lexing as lexing
use Rattle.ddl_laws.specs.RoundTrip.{IsI64}

own : IsNumeralModel (Each is_digit) (lexing.decimal 0)
own = numerals_by_fold _ (search rules) lexing.decimal (search rules)

digits_of : (text : List ℕ) → 0 < length text → Each is_digit text → IsDigits text
digits_of [] some h = omega (arith, some)
digits_of (b ∷ text) some h = h

first_digit : (b : ℕ) → is_digit b ≡ true → nat_eq b 45 ≡ false
first_digit b h = search rules

read_pos : (text : List ℕ) → IsDigits text → int_of text ≡ lexing.positive (lexing.decimal 0 text)
read_pos [] h = absurd h
read_pos (b ∷ text) h = ap (λ e. if e then lexing.negative (lexing.decimal 0 text) else lexing.positive (lexing.decimal 0 (b ∷ text))) (first_digit b h.0)

pub number_spelled : (n : ℤ) → IsI64 n → Spells (signed_decimal n) (kinds.Int n)
number_spelled (pos n) fits =
    let big : n < 2 ^ 64 = omega (arith, fits) in
    let digits : IsDigits (decimal n) = digits_of (decimal n) (decimal_nonempty n big) (digits_decimal own n big) in
    (inl digits, read_pos (decimal n) digits ∙ ap lexing.positive (digits_value-decimal own n big) ∙ ap (λ b. if b then Some (pos n) else None) (le-leb n 9223372036854775807 fits))
number_spelled (negsuc n) fits =
    let big : suc n < 2 ^ 64 = omega (arith, fits) in
    let digits : IsDigits (decimal (suc n)) = digits_of (decimal (suc n)) (decimal_nonempty (suc n) big) (digits_decimal own (suc n) big) in
    (inr (decimal (suc n), refl, digits), ap lexing.negative (digits_value-decimal own (suc n) big) ∙ ap (λ b. if b then Some (negsuc n) else None) (le-leb (suc n) 9223372036854775808 (omega (arith, fits))))
