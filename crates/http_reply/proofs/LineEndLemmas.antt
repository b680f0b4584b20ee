-- Lists of line ends, from the front.
use Rattle.std.proofs.Common.{◌≡◌, ℕ, ◌+◌, ◌<◌, ◌≤◌, List, [], ◌∷◌, length, refl, sym, ap, ◌∙◌, subst, arith, get_or, drop, ◌≢◌}
use Rattle.std.proofs.lemmas.List.{drop_more, drop_all}
use Rattle.httparse.specs.Grammar.{LineEnd, crlf, lf, print_blank}
use Rattle.http_spec.specs.Heads.{AreLineEnds}

-- a line feed in front
lf_on : (s : List ℕ) → AreLineEnds s → AreLineEnds (10 ∷ s)
lf_on s w = (lf ∷ w.0, ap (λ t. 10 ∷ t) w.1)

lf_off : (s : List ℕ) (ends : List LineEnd) → 10 ∷ s ≡ print_blank ends → AreLineEnds s
lf_off s [] e = cc
lf_off s (crlf ∷ ends) e = absurd (omega (arith, ap (λ (t : List ℕ). get_or t 0 0) e))
lf_off s (lf ∷ ends) e = (ends, cc)

-- a carriage return and a line feed in front
crlf_on : (s : List ℕ) → AreLineEnds s → AreLineEnds (13 ∷ 10 ∷ s)
crlf_on s w = (crlf ∷ w.0, ap (λ t. 13 ∷ 10 ∷ t) w.1)

crlf_off : (s : List ℕ) (ends : List LineEnd) → 13 ∷ 10 ∷ s ≡ print_blank ends → AreLineEnds s
crlf_off s [] e = cc
crlf_off s (crlf ∷ ends) e = (ends, cc)
crlf_off s (lf ∷ ends) e = absurd (omega (arith, ap (λ (t : List ℕ). get_or t 0 0) e))

-- another byte in front
other_off : (b : ℕ) (s : List ℕ) (ends : List LineEnd) → b ≢ 10 → b ≢ 13 → b ∷ s ≡ print_blank ends → ⊥
other_off b s [] l r e = cc
other_off b s (crlf ∷ ends) l r e = r cc
other_off b s (lf ∷ ends) l r e = l cc

-- a carriage return alone
cr_off : (ends : List LineEnd) → 13 ∷ [] ≡ print_blank ends → ⊥
cr_off [] e = cc
cr_off (crlf ∷ ends) e = cc
cr_off (lf ∷ ends) e = omega (arith, ap (λ (t : List ℕ). get_or t 0 0) e)

-- a carriage return before another byte
cr_other_off : (b : ℕ) (s : List ℕ) (ends : List LineEnd) → b ≢ 10 → 13 ∷ b ∷ s ≡ print_blank ends → ⊥
cr_other_off b s [] l e = cc
cr_other_off b s (crlf ∷ ends) l e = l cc
cr_other_off b s (lf ∷ ends) l e = omega (arith, ap (λ (t : List ℕ). get_or t 0 0) e)

-- the same at a place of a text
here : (bytes : List ℕ) (at b : ℕ) → at < length bytes → get_or bytes at 0 ≡ b → drop at bytes ≡ b ∷ drop (at + 1) bytes
here bytes at b inside is = drop_more bytes at 0 inside ∙ ap (λ x. x ∷ drop (at + 1) bytes) is

here_two : (bytes : List ℕ) (at b c : ℕ) → at + 1 < length bytes → get_or bytes at 0 ≡ b → get_or bytes (at + 1) 0 ≡ c
    → drop at bytes ≡ b ∷ c ∷ drop (at + 2) bytes
here_two bytes at b c inside first second =
    let next : at + 1 + 1 ≡ at + 2 = omega arith in
    here bytes at b (omega arith) first
    ∙ ap (λ s. b ∷ s) (here bytes (at + 1) c inside second ∙ ap (λ n. c ∷ drop n bytes) next)

-- one more line end, as a step of a search
pub record Steps (bytes : List ℕ) (at next : ℕ) : Type 0 where
  pub on : AreLineEnds (drop next bytes) → AreLineEnds (drop at bytes)
  pub off : AreLineEnds (drop at bytes) → AreLineEnds (drop next bytes)

pub lf_steps : (bytes : List ℕ) (at : ℕ) → at < length bytes → get_or bytes at 0 ≡ 10 → Steps bytes at (at + 1)
lf_steps bytes at inside is =
    let e = here bytes at 10 inside is in record {
      on = λ w. subst AreLineEnds (sym e) (lf_on (drop (at + 1) bytes) w);
      off = λ w. lf_off (drop (at + 1) bytes) w.0 (sym e ∙ w.1);
    }

pub crlf_steps : (bytes : List ℕ) (at : ℕ) → at + 1 < length bytes → get_or bytes at 0 ≡ 13 → get_or bytes (at + 1) 0 ≡ 10 → Steps bytes at (at + 2)
crlf_steps bytes at inside first second =
    let e = here_two bytes at 13 10 inside first second in record {
      on = λ w. subst AreLineEnds (sym e) (crlf_on (drop (at + 2) bytes) w);
      off = λ w. crlf_off (drop (at + 2) bytes) w.0 (sym e ∙ w.1);
    }

-- where a search stops
pub stops_other : (bytes : List ℕ) (at : ℕ) → at < length bytes → get_or bytes at 0 ≢ 10 → get_or bytes at 0 ≢ 13 → AreLineEnds (drop at bytes) → ⊥
stops_other bytes at inside l r w =
    other_off (get_or bytes at 0) (drop (at + 1) bytes) w.0 l r (sym (here bytes at (get_or bytes at 0) inside refl) ∙ w.1)

pub stops_end : (bytes : List ℕ) (at : ℕ) → at < length bytes → length bytes ≤ at + 1 → get_or bytes at 0 ≡ 13 → AreLineEnds (drop at bytes) → ⊥
stops_end bytes at inside last is w =
    cr_off w.0 (sym (here bytes at 13 inside is ∙ ap (λ s. 13 ∷ s) (drop_all (at + 1) bytes last)) ∙ w.1)

pub stops_cr : (bytes : List ℕ) (at : ℕ) → at + 1 < length bytes → get_or bytes at 0 ≡ 13 → get_or bytes (at + 1) 0 ≢ 10 → AreLineEnds (drop at bytes) → ⊥
stops_cr bytes at inside is other w =
    cr_other_off (get_or bytes (at + 1) 0) (drop (at + 2) bytes) w.0 other (sym (here_two bytes at 13 (get_or bytes (at + 1) 0) inside is refl) ∙ w.1)
