-- A text by its characters.
use Rattle.std.proofs.Common.{◌≡◌, ℕ, ◌+◌, ◌-◌, ◌≤◌, List, [], ◌∷◌, ◌++◌, length, take, drop, chars, encode_utf8_all, refl, sym, ap, ◌∙◌, arith, add-one}
use Rattle.std.specs.Char.{encode_utf8}
use Rattle.std.specs.Str.{IsUtf8, IsCharBoundary}
use Rattle.std.proofs.lemmas.List.{length-append, length-drop, take-append-drop}
use Rattle.std.proofs.lemmas.Str.{chars_past_char, chars-nil, encodes-chars, encodes-append, IsCharBoundary-at_seam}
use Rattle.std.proofs.Math.ListN.{drop_of_length-le}
use Rattle.std.proofs.Math.Seq.{take-append_seam}
use Rattle.function_spec.specs.Characters.{first, rest}

drop_one : {X : Type 0} (xs : List X) (i : ℕ) (y : X) (ys : List X) → drop i xs ≡ y ∷ ys → drop (ℕ.suc i) xs ≡ ys
drop_one [] ℕ.zero y ys e = cc
drop_one [] (ℕ.suc i) y ys e = cc
drop_one (x ∷ xs) ℕ.zero y ys e = cc
drop_one (x ∷ xs) (ℕ.suc i) y ys e = drop_one xs i y ys e

drop_one_more : {X : Type 0} (xs : List X) (i : ℕ) (y : X) (ys : List X) → drop i xs ≡ y ∷ ys → drop (i + 1) xs ≡ ys
drop_one_more xs i y ys e = rw add-one (drop_one xs i y ys e)

-- one character more is passed
pub passed : (t now next : List ℕ) (i c : ℕ) → IsUtf8 now → chars now ≡ drop i (chars t) → now ≡ encode_utf8 c ++ next → chars next ≡ drop (i + 1) (chars t)
passed t now next i c utf8 so e = sym (drop_one_more (chars t) i c (chars next) (sym so ∙ chars_past_char now next c utf8 e))

empty : (xs : List ℕ) → length xs ≡ 0 → xs ≡ []
empty [] e = refl
empty (x ∷ xs) e = absurd (omega (arith, e))

-- no character is left
pub ended : (t now : List ℕ) (i n : ℕ) → chars now ≡ drop i (chars t) → length now ≡ 0 → i ≤ n → now ≡ rest t n
ended t now i n so e le =
    let none = empty now e in
    let here : drop i (chars t) ≡ [] = sym so ∙ ap chars none ∙ chars-nil in
    let short : length (chars t) - i ≡ 0 = sym (length-drop i (chars t)) ∙ ap length here in
    none ∙ sym (ap encode_utf8_all (drop_of_length-le (chars t) {i = n} (omega arith)))

-- all are passed
pub all_passed : (t now : List ℕ) (n : ℕ) → IsUtf8 now → chars now ≡ drop n (chars t) → now ≡ rest t n
all_passed t now n utf8 so = sym (encodes-chars now utf8) ∙ ap encode_utf8_all so

-- a text is its first characters and the rest
pub split_at : (t : List ℕ) (n : ℕ) → IsUtf8 t → t ≡ first t n ++ rest t n
split_at t n utf8 =
    sym (encodes-chars t utf8) ∙ ap encode_utf8_all (sym (take-append-drop n (chars t)))
    ∙ encodes-append (take n (chars t)) (drop n (chars t))

module _ (t r : List ℕ) (n : ℕ) (utf8 : IsUtf8 t) (is : r ≡ rest t n) where
  whole : t ≡ first t n ++ r
  whole = split_at t n utf8 ∙ ap (λ x. first t n ++ x) (sym is)

  long : length t ≡ length (first t n) + length r
  long = ap length whole ∙ length-append (first t n) r

  pub no_longer : length r ≤ length t
  no_longer = omega (arith, long)

  place : length t - length r ≡ length (first t n)
  place = omega (arith, long)

  pub boundary : IsUtf8 r → IsCharBoundary t (length t - length r)
  boundary u = rw place (IsCharBoundary-at_seam t (first t n) r whole u)

  pub front_is : take (length t - length r) t ≡ first t n
  front_is = rw place (ap (take (length (first t n))) whole ∙ take-append_seam (first t n) r)
