-- A text that is written opens no tag of its own.
use Rattle.std.proofs.Common.{◌≡◌, ℕ, ◌/◌, ◌%◌, Bool, true, false, cond, List, [], ◌∷◌, ◌++◌, refl, ◌∙◌, arith}
use Rattle.std.specs.Prelude.{◌==◌, ◌&&◌, ◌||◌, not, codes, nat_lt}
use Rattle.std.specs.List.{starts_with}
use Rattle.std.proofs.lemmas.Bool.Decides.{nat_tests}
use Rattle.std.proofs.lemmas.List.Folds.{list_all-append}
use Rattle.tmpl.specs.declared.Writing.{Writing}
use Rattle.tmpl.specs.declared.Writing.TheVariants.{Escaped, Raw, Lines, Url, Json}
use Rattle.page_spec.specs.Show.{byte_in_html, escaped}
use Rattle.page_spec.specs.Written.{in_lines, byte_in_lines, is_before_lf, in_url, in_json, byte_in_json, control_in_json, small_hex_digit, written}
use Rattle.render.specs.Safe.{has_no_tag, has_breaks_alone, IsSafe}

-- either way, where the second may know that the test failed
either_way : (P : List ℕ → Type 0) (c : Bool) (x y : List ℕ) → P x → (c ≡ false → P y) → P (cond c x y)
either_way P true x y h g = h
either_way P false x y h g = g refl

abbrev NoTag : List ℕ → Type 0
NoTag t = has_no_tag t ≡ true

one_byte : (b : ℕ) → (b == 60) ≡ false → NoTag (b ∷ [])
one_byte b e = rw e refl

both : (a b : Bool) → a ≡ true → b ≡ true → (a && b) ≡ true
both true b h g = g
both false b h g = h

appended : (x y : List ℕ) → NoTag x → NoTag y → NoTag (x ++ y)
appended x y h g = list_all-append (λ b. not (b == 60)) x y ∙ both (has_no_tag x) (has_no_tag y) h g

in_html : (b : ℕ) → NoTag (byte_in_html b)
in_html b =
    either_way NoTag (b == 38) _ _ refl
    (λ _. either_way NoTag (b == 60) _ _ refl
    (λ e. either_way NoTag (b == 62) _ _ refl
    (λ _. either_way NoTag (b == 34) _ _ refl
    (λ _. either_way NoTag (b == 39) _ _ refl (λ _. one_byte b e)))))

all_escaped : (t : List ℕ) → NoTag (escaped t)
all_escaped [] = refl
all_escaped (b ∷ t) = appended (byte_in_html b) (escaped t) (in_html b) (all_escaped t)

digit : (d : ℕ) → (small_hex_digit d == 60) ≡ false
digit d = by (nat_lt d 10) refl
  where
    by : (c : Bool) → nat_lt d 10 ≡ c → (small_hex_digit d == 60) ≡ false
    by true e = rw e (grind (arith, nat_tests))
    by false e = rw e (grind (arith, nat_tests))

two_digits : (a b : ℕ) → (a == 60) ≡ false → (b == 60) ≡ false → NoTag (codes "\\u00" ++ (a ∷ b ∷ []))
two_digits a b h g = rw (h, g) refl

control : (b : ℕ) → (b == 60) ≡ false → NoTag (control_in_json b)
control b e =
    either_way NoTag (nat_lt b 32) _ _ (two_digits (small_hex_digit (b / 16)) (small_hex_digit (b % 16)) (digit (b / 16)) (digit (b % 16)))
    (λ _. one_byte b e)

json_byte : (b : ℕ) → NoTag (byte_in_json b)
json_byte b =
    either_way NoTag (b == 34) _ _ refl
    (λ _. either_way NoTag (b == 92) _ _ refl
    (λ _. either_way NoTag (b == 60) _ _ refl
    (λ e. either_way NoTag (b == 8) _ _ refl
    (λ _. either_way NoTag (b == 9) _ _ refl
    (λ _. either_way NoTag (b == 10) _ _ refl
    (λ _. either_way NoTag (b == 12) _ _ refl
    (λ _. either_way NoTag (b == 13) _ _ refl (λ _. control b e))))))))

all_json : (t : List ℕ) → NoTag (in_json t)
all_json [] = refl
all_json (b ∷ t) = appended (byte_in_json b) (in_json t) (json_byte b) (all_json t)

-- ---- lines

-- what may stand before a text whose breaks alone open a tag
abbrev MayPrecede : List ℕ → Type 0
MayPrecede x = (y : List ℕ) → has_breaks_alone y ≡ true → has_breaks_alone (x ++ y) ≡ true

or_first : (a b : Bool) → a ≡ true → (a || b) ≡ true
or_first true b e = refl
or_first false b e = absurd cc

and_parts : (a b : Bool) → (a && b) ≡ true → (a ≡ true) × (b ≡ true)
and_parts true b e = (refl, e)
and_parts false b e = absurd cc

no_tag_precedes : (x : List ℕ) → NoTag x → MayPrecede x
no_tag_precedes [] h y g = g
no_tag_precedes (b ∷ x) h y g =
    let parts = and_parts (not (b == 60)) (has_no_tag x) h in
    both (not (b == 60) || starts_with ◌==◌ (x ++ y) (codes "br>\n")) (has_breaks_alone (x ++ y))
    (or_first (not (b == 60)) (starts_with ◌==◌ (x ++ y) (codes "br>\n")) parts.0) (no_tag_precedes x parts.1 y g)

break_precedes : MayPrecede (codes "<br>\n")
break_precedes y g = g

line_byte : (b : ℕ) (behind : List ℕ) → MayPrecede (byte_in_lines b behind)
line_byte b behind =
    either_way MayPrecede (b == 10) _ _ break_precedes
    (λ _. either_way MayPrecede (b == 13) _ _
    (either_way MayPrecede (is_before_lf behind) _ _ (no_tag_precedes [] refl) (λ _. break_precedes))
    (λ _. no_tag_precedes (byte_in_html b) (in_html b)))

all_lines : (t : List ℕ) → has_breaks_alone (in_lines t) ≡ true
all_lines [] = refl
all_lines (b ∷ t) = line_byte b t (in_lines t) (all_lines t)

pub safe : (w : Writing) (t : List ℕ) → IsSafe w (written w t)
safe Escaped t = all_escaped t
safe Raw t = tt
safe Lines t = all_lines t
safe Url t = all_escaped (in_url t)
safe Json t = all_json t
