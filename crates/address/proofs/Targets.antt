-- The path of a target: what the code computes is what the definitions say.
use Rattle.std.proofs.Common.{◌≡◌, ℕ, zero, suc, ◌+◌, ◌*◌, ◌<◌, Bool, true, false, List, [], ◌∷◌, Option, Some, None, length, get_or, take, drop, map, sym, ap, ◌∙◌, refl, arith, add-one}
use Rattle.std.specs.Prelude.{codes, nat_eq, ◌==◌, ◌&&◌, if◌then◌else◌}
use Rattle.std.specs.Char as chars
use Rattle.std.proofs.lemmas.Bool.Decides.{nat_tests}
use Rattle.std.proofs.lemmas.List.{take_all, length-map}
use Rattle.std.specs.Str.{bytes_eq}
use lib.Pointwise.{bytes_decides}
use Rattle.percent_encoding.specs.Percent.{percent_decode, is_escape}
use Rattle.page_spec.specs.Address.{hex_value, escape_or, decoded, from_slash, without_host}

pub drop_step : (xs : List ℕ) (i x : ℕ) → i < length xs → x ≡ get_or xs i x → drop i xs ≡ x ∷ drop (i + 1) xs
drop_step [] i x l is = absurd (omega arith)
drop_step (y ∷ ys) zero x l is = ap (λ z. z ∷ ys) (sym is)
drop_step (y ∷ ys) (suc i) x l is = rw add-one (rw add-one at (drop_step ys i x (omega arith) is))

-- percent escapes

hex_digit_value : (b : ℕ) → chars.is_digit b 16 ≡ true → hex_value b ≡ Some (chars.digit_value b)
hex_digit_value b h = grind (arith, nat_tests)

no_hex_digit : (b : ℕ) → chars.is_digit b 16 ≡ false → hex_value b ≡ None
no_hex_digit b h = grind (arith, nat_tests)

escape_case : (t p q : Bool) (h l : Option ℕ) (m n : ℕ) (r o : List ℕ) → (p ≡ true → h ≡ Some m) → (p ≡ false → h ≡ None) → (q ≡ true → l ≡ Some n) → (q ≡ false → l ≡ None) → (if t && p && q then (16 * m + n) ∷ r else o) ≡ (if t then escape_or h l r o else o)
escape_case false p q h l m n r o ht hf lt lf = refl
escape_case true true true h l m n r o ht hf lt lf = rw (ht refl, lt refl) refl
escape_case true true false h l m n r o ht hf lt lf = rw (ht refl, lf refl) refl
escape_case true false q h l m n r o ht hf lt lf = rw (hf refl) refl

pub decoded_is : (xs : List ℕ) → percent_decode xs ≡ decoded xs
unfolding percent_decode
decoded_is [] = refl
decoded_is (x ∷ []) = refl
decoded_is (x ∷ a ∷ []) = refl
decoded_is (x ∷ a ∷ b ∷ rest) =
    ap (λ z. if is_escape x a b then (16 * chars.digit_value a + chars.digit_value b) ∷ z else x ∷ percent_decode (a ∷ b ∷ rest)) (decoded_is rest)
    ∙ ap (λ z. if is_escape x a b then (16 * chars.digit_value a + chars.digit_value b) ∷ decoded rest else x ∷ z) (decoded_is (a ∷ b ∷ rest))
    ∙ escape_case (x == 37) (chars.is_digit a 16) (chars.is_digit b 16) (hex_value a) (hex_value b) (chars.digit_value a) (chars.digit_value b) (decoded rest) (x ∷ decoded (a ∷ b ∷ rest)) (hex_digit_value a) (no_hex_digit a) (hex_digit_value b) (no_hex_digit b)

pub first_here : (xs : List ℕ) (i : ℕ) → i < length xs → drop i xs ≡ get_or xs i 0 ∷ drop (i + 1) xs
first_here [] i l = absurd (omega arith)
first_here (y ∷ ys) zero l = refl
first_here (y ∷ ys) (suc i) l = rw add-one (rw add-one at (first_here ys i (omega arith)))

pub three_here : (xs : List ℕ) (i : ℕ) → i + 2 < length xs → drop i xs ≡ get_or xs i 0 ∷ get_or xs (i + 1) 0 ∷ get_or xs (i + 2) 0 ∷ drop (i + 3) xs
three_here xs i l =
    let a = first_here xs i (omega arith) in
    let b = first_here xs (i + 1) (omega arith) in
    let c = first_here xs (i + 2) (omega arith) in
    let ab : drop (i + 1) xs ≡ get_or xs (i + 1) 0 ∷ drop (i + 2) xs = b ∙ ap (λ n. get_or xs (i + 1) 0 ∷ drop n xs) (let e : i + 1 + 1 ≡ i + 2 = omega arith in e) in
    let bc : drop (i + 2) xs ≡ get_or xs (i + 2) 0 ∷ drop (i + 3) xs = c ∙ ap (λ n. get_or xs (i + 2) 0 ∷ drop n xs) (let e : i + 2 + 1 ≡ i + 3 = omega arith in e) in
    a ∙ ap (λ z. get_or xs i 0 ∷ z) (ab ∙ ap (λ z. get_or xs (i + 1) 0 ∷ z) bc)

-- the scheme and the host

by_same : (b : Bool) (xs ys : List ℕ) → (b ≡ true → ⊥) → (if b then xs else ys) ≡ ys
by_same true xs ys h = absurd (h refl)
by_same false xs ys h = refl

pub with_host : (t : List ℕ) → map chars.to_ascii_lowercase (take 7 t) ≡ codes "http://" → without_host t ≡ from_slash (drop 7 t)
with_host t e =
    let f : bytes_eq (map chars.to_ascii_lowercase (take 7 t)) (codes "http://") ≡ true = (bytes_decides (map chars.to_ascii_lowercase (take 7 t)) (codes "http://")).1 e in
    ap (λ b. if b then from_slash (drop 7 t) else t) f

pub no_host : (t : List ℕ) → (map chars.to_ascii_lowercase (take 7 t) ≡ codes "http://" → ⊥) → without_host t ≡ t
no_host t h = by_same (bytes_eq (map chars.to_ascii_lowercase (take 7 t)) (codes "http://")) (from_slash (drop 7 t)) t (λ e. h ((bytes_decides (map chars.to_ascii_lowercase (take 7 t)) (codes "http://")).0 e))

pub short_target : (t : List ℕ) → length t < 7 → map chars.to_ascii_lowercase (take 7 t) ≡ codes "http://" → ⊥
short_target t l e =
    let n : length (map chars.to_ascii_lowercase (take 7 t)) ≡ 7 = ap length e in
    omega (arith, n, length-map (take 7 t) chars.to_ascii_lowercase, ap length (take_all 7 t (omega arith)))
