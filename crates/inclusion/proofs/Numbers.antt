-- Tests of twins.
use Rattle.std.proofs.Common.{◌≡◌, ℕ, ℤ, pos, negsuc, ◌<◌, ◌^◌, List, refl, sym, ap, subst, ◌∙◌, arith, w64, FitsSigned, eqb}
use Rattle.std.proofs.Math.Facts.{leb_yes}
use Rattle.std.specs.Prelude.{Bool, true, false, nat_lt, MatchOption, Option}
use Rattle.std.specs.Bool.{Decides}
use Rattle.std.specs.Fmt.{signed_decimal}
use Rattle.std.specs.Str.{IsUtf8}
use Rattle.std.specs.Str.Parse.{ParsesSigned, signed_digits_value}
use Rattle.std.specs.Int.Signed.{mag}
use Rattle.std.specs.Result.{result_ok}
use Rattle.std.specs.declared.result.Result.{Result}
use Rattle.std.specs.declared.result.Result.TheVariants.{Ok, Err}
use Rattle.std.proofs.lemmas.Int.{ints}
use Rattle.std.proofs.lemmas.Bool.Decides.{nat_tests, Decides-eqb}
use Rattle.std.proofs.lemmas.Fmt.{IsAscii-signed, parse-signed_decimal}
use Rattle.std.proofs.lemmas.Str.{IsUtf8-from_ascii}
use Rattle.sd_value.specs.declared.Datum.TheVariants.{Int, Text, Url, File, Node}
use Rattle.sd_value.specs.declared.Value.{Value}
use Rattle.sd_value.specs.declared.Value.TheVariants.{Data, Page}
use Rattle.sd_value.specs.Names.{Name}
use Rattle.query_spec.specs.Mentions.{same_name}
use Rattle.query_spec.specs.Holds.{AreTwins, IsTwinOf}
use Rattle.query_parts.specs.Same.{same_value, same_list}
use Rattle.query_parts.proofs.Bools.{never, as_well, both}
use Rattle.query_parts.proofs.Same.{name_decides, value_decides, list_decides}
use Rattle.inclusion.specs.SpelledTable.{IsShort, is_short, spells, has_twin}

-- ---- numbers of 64 bits

pub small : (n : ℤ) → IsShort n → mag n < 2 ^ 63
small (pos k) r = (let l = leb_yes r.1.le in omega (arith, l))
small (negsuc k) r = (let l = leb_yes r.0.le in omega (arith, l))

below : (k : ℕ) → nat_lt k (2 ^ 63) ≡ true → k < 2 ^ 63
below k t = grind (arith, nat_tests)

tested : (k : ℕ) → k < 2 ^ 63 → nat_lt k (2 ^ 63) ≡ true
tested k l = grind (arith, nat_tests)

short_decides : (n : ℤ) → Decides (is_short n) (IsShort n)
short_decides (pos k) = (λ t. (let l = below k t in (omega (arith, ints), omega (arith, ints))), λ r. tested k (small (pos k) r))
short_decides (negsuc k) = (λ t. (let l = below k t in (omega (arith, ints), omega (arith, ints))), λ r. tested k (small (negsuc k) r))

-- ---- spelling

pub spells_right : (n : ℤ) (s : Name) → Decides (spells n s) (AreTwins 2 n s)
spells_right n s =
    as_well (spells n s) (λ h. (omega arith, h.0.0, h.0.1, h.1)) (λ h. ((h.1, h.2), h.3))
    (both (is_short n) (same_name s (signed_decimal n)) (short_decides n) (name_decides s (signed_decimal n)))

fits : (n : ℤ) → IsShort n → FitsSigned w64 n
fits n r = record { sfits = small n r }

short_of : (n : ℤ) → FitsSigned w64 n → IsShort n
short_of (pos k) f = (let l = f.sfits in (omega (arith, ints), omega (arith, ints)))
short_of (negsuc k) f = (let l = f.sfits in (omega (arith, ints), omega (arith, ints)))

same_number : (m n : ℤ) → ((m ≡ n → ⊥) → ⊥) → m ≡ n
same_number m n h = by_test (same_value (Data (Int m)) (Data (Int n))) (value_decides (Data (Int m)) (Data (Int n)))
  where
    by_test : (b : Bool) → Decides b (Data (Int m) ≡ Data (Int n)) → m ≡ n
    by_test true d = (let e = d.0 refl in cc)
    by_test false d = absurd (h (λ e. (let f : false ≡ true = d.1 (ap (λ z. Data (Int z)) e) in cc)))

no_number : {E : Type 0} (result : Result ℤ E) (x : E) (n : ℤ) → result ≡ Err x → result ≡ Ok n → ⊥
no_number result x n e f = cc

one_number : {E : Type 0} (result : Result ℤ E) (m n : ℤ) → result ≡ Ok m → result ≡ Ok n → m ≡ n
one_number result m n e f = cc

read : {E : Type 0} (n : ℤ) → IsShort n → (result : Result ℤ E) → ParsesSigned w64 10 (signed_decimal n) result → result ≡ Ok n
read n r result h = parse-signed_decimal w64 n (signed_decimal n) result (fits n r) (small n r) refl h

-- what is printed of a number is read as that number
pub value_printed : (n : ℤ) → IsShort n → signed_digits_value 10 (signed_decimal n) ≡ n
value_printed n r =
    let v = signed_digits_value 10 (signed_decimal n) in
    same_number v n
    (λ differs. no_number {E = ℕ} (Err 0) 0 n refl (read {E = ℕ} n r (Err 0) (λ p. differs (one_number {E = ℕ} (Ok v) v n refl (read {E = ℕ} n r (Ok v) (p, refl))))))

-- ---- twins

twin_of_number : (n : ℤ) (w : Value) → IsTwinOf 2 (Data (Int n)) w → IsShort n
twin_of_number n (Data (Text s)) h = (h.1, h.2)
twin_of_number n w h = absurd h

twin_of_text : (s : Name) (w : Value) → IsTwinOf 2 (Data (Text s)) w → AreTwins 2 (signed_digits_value 10 s) s
twin_of_text s (Data (Int n)) h =
    let value : signed_digits_value 10 s ≡ n = ap (signed_digits_value 10) h.3 ∙ value_printed n (h.1, h.2) in
    subst (λ m. AreTwins 2 m s) (sym value) h
twin_of_text s w h = absurd h

pub twin_right : (v : Value) → Decides (has_twin v) ((w : Value) × IsTwinOf 2 v w)
twin_right (Data (Int n)) =
    as_well (is_short n) (λ h. (Data (Text (signed_decimal n)), (omega arith, h.0, h.1, refl))) (λ h. twin_of_number n h.0 h.1) (short_decides n)
twin_right (Data (Text s)) =
    as_well (spells (signed_digits_value 10 s) s) (λ h. (Data (Int (signed_digits_value 10 s)), h)) (λ h. twin_of_text s h.0 h.1) (spells_right (signed_digits_value 10 s) s)
twin_right (Data (Url s)) = never (λ h. h.1)
twin_right (Data (File s)) = never (λ h. h.1)
twin_right (Data (Node s)) = never (λ h. h.1)
twin_right (Page t) = never (λ h. h.1)

-- ---- what the code reads

pub printed_utf8 : (n : ℤ) (bs : List ℕ) → IsShort n → bs ≡ signed_decimal n → IsUtf8 bs
printed_utf8 n bs r e = subst IsUtf8 (sym e) (IsUtf8-from_ascii (signed_decimal n) (IsAscii-signed n (small n r)))

pub printed_read : {E : Type 0} (n : ℤ) (bs : List ℕ) (result : Result ℤ E) → IsShort n → bs ≡ signed_decimal n → ParsesSigned w64 10 bs result → result ≡ Ok n
printed_read n bs result r e h = parse-signed_decimal w64 n bs result (fits n r) (small n r) e h

-- what is read of a text: the number that its digits write, or none, and then no number is printed so
pub number_read : {E : Type 0} (bs text : List ℕ) (result : Result ℤ E) (number : Option ℤ) → text ≡ bs → ParsesSigned w64 10 text result → number ≡ result_ok result → MatchOption number ((n : ℤ) → IsShort n → bs ≡ signed_decimal n → ⊥) (λ n. n ≡ signed_digits_value 10 bs)
number_read bs text (Ok n) number same h e =
    subst (λ o. MatchOption o ((n : ℤ) → IsShort n → bs ≡ signed_decimal n → ⊥) (λ n. n ≡ signed_digits_value 10 bs)) (sym e)
    (subst (λ z. n ≡ signed_digits_value 10 z) same h.1)
number_read {E} bs text (Err x) number same h e =
    subst (λ o. MatchOption o ((n : ℤ) → IsShort n → bs ≡ signed_decimal n → ⊥) (λ n. n ≡ signed_digits_value 10 bs)) (sym e)
    (λ n short is. no_number (Err x) x n refl (printed_read n text (Err x) short (same ∙ is) h))

-- the same bytes, tested one way and another
pub same_tests : (P : Type 0) (a b : Bool) → Decides a P → Decides b P → a ≡ b
same_tests P true true d e = refl
same_tests P true false d e = sym (e.1 (d.0 refl))
same_tests P false true d e = d.1 (e.0 refl)
same_tests P false false d e = refl

pub spelled_is : (n : ℤ) (s : Name) (b : Bool) → FitsSigned w64 n → Decides b (signed_decimal n ≡ s) → b ≡ spells n s
spelled_is n s b short d =
    same_tests (AreTwins 2 n s) b (spells n s) (as_well b (λ e. (omega arith, (short_of n short).0, (short_of n short).1, sym e)) (λ h. sym h.3) d) (spells_right n s)

-- the same of bytes that are compared one by one
pub compared_is : (n : ℤ) (s : Name) (b : Bool) (xs ys : List ℕ) → FitsSigned w64 n → b ≡ same_list eqb xs ys → xs ≡ signed_decimal n → ys ≡ s → b ≡ spells n s
compared_is n s b xs ys short e p q =
    let d = list_decides eqb Decides-eqb xs ys in
    spelled_is n s b short (λ t. sym p ∙ (d.0 (sym e ∙ t) ∙ q), λ h. e ∙ d.1 (p ∙ (h ∙ sym q)))

-- no number is printed so
pub not_spelled : (s : Name) → ((n : ℤ) → IsShort n → s ≡ signed_decimal n → ⊥) → false ≡ spells (signed_digits_value 10 s) s
not_spelled s none =
    same_tests (AreTwins 2 (signed_digits_value 10 s) s) false (spells (signed_digits_value 10 s) s) (never (λ h. none (signed_digits_value 10 s) (h.1, h.2) h.3)) (spells_right (signed_digits_value 10 s) s)
