-- The first line of bytes, from their front.
use Rattle.std.proofs.Common.{◌≡◌, ℕ, ◌+◌, ◌-◌, ◌<◌, ◌≤◌, suc, Bool, true, false, List, [], ◌∷◌, ◌++◌, length, take, drop, refl, sym, ap, ◌∙◌, arith, get_or, drop-cons, append_assoc}
use Rattle.std.proofs.lemmas.List.{append-nil, drop_all, take_all, take_more, take_rest}
use Rattle.logged_wire.specs.Logged.{is_line_end, line_at, first_line}

in_line : (b : ℕ) (rest : List ℕ) → is_line_end b ≡ false → line_at (b ∷ rest) ≡ b ∷ line_at rest
in_line b rest other = rw other refl

at_end : (b : ℕ) (rest : List ℕ) → is_line_end b ≡ true → line_at (b ∷ rest) ≡ []
at_end b rest is = rw is refl

before_line : (b : ℕ) (rest : List ℕ) → is_line_end b ≡ true → first_line (b ∷ rest) ≡ first_line rest
before_line b rest is = rw is refl

at_line : (b : ℕ) (rest : List ℕ) → is_line_end b ≡ false → first_line (b ∷ rest) ≡ b ∷ line_at rest
at_line b rest other = rw other refl

next_is : (at : ℕ) → suc at ≡ at + 1
next_is at = omega arith

-- the line goes on at a place
pub goes_on : (bytes : List ℕ) (at : ℕ) → at < length bytes → is_line_end (get_or bytes at 0) ≡ false → line_at bytes ≡ take at bytes ++ line_at (drop at bytes)
    → line_at bytes ≡ take (at + 1) bytes ++ line_at (drop (at + 1) bytes)
goes_on bytes at inside other so_far =
    let rest : List ℕ = drop (suc at) bytes in
    let cut : line_at (drop at bytes) ≡ get_or bytes at 0 ∷ line_at rest = ap line_at (drop-cons bytes at 0 inside) ∙ in_line (get_or bytes at 0) rest other in
    so_far ∙ ap (λ line. take at bytes ++ line) cut
    ∙ sym (append_assoc (take at bytes) (get_or bytes at 0 ∷ []) (line_at rest))
    ∙ ap (λ front. front ++ line_at rest) (sym (take_more bytes at 0 inside))
    ∙ ap (λ n. take (at + 1) bytes ++ line_at (drop n bytes)) (next_is at)

-- it ends there
pub ends : (bytes : List ℕ) (at : ℕ) → at < length bytes → is_line_end (get_or bytes at 0) ≡ true → line_at bytes ≡ take at bytes ++ line_at (drop at bytes)
    → take at bytes ≡ line_at bytes
ends bytes at inside is so_far =
    sym (so_far ∙ ap (λ line. take at bytes ++ line) (ap line_at (drop-cons bytes at 0 inside) ∙ at_end (get_or bytes at 0) (drop (suc at) bytes) is) ∙ append-nil (take at bytes))

-- it has no end
pub is_all : (bytes : List ℕ) (at : ℕ) → length bytes ≤ at → line_at bytes ≡ take at bytes ++ line_at (drop at bytes) → bytes ≡ line_at bytes
is_all bytes at over so_far =
    sym (so_far ∙ ap (λ rest. take at bytes ++ line_at rest) (drop_all at bytes over) ∙ append-nil (take at bytes) ∙ take_all at bytes over)

-- no line begins at a place
pub skips : (bytes : List ℕ) (at : ℕ) → at < length bytes → is_line_end (get_or bytes at 0) ≡ true → first_line (drop at bytes) ≡ first_line bytes
    → first_line (drop (at + 1) bytes) ≡ first_line bytes
skips bytes at inside is so_far =
    ap (λ n. first_line (drop n bytes)) (sym (next_is at)) ∙ sym (before_line (get_or bytes at 0) (drop (suc at) bytes) is)
    ∙ ap first_line (sym (drop-cons bytes at 0 inside)) ∙ so_far

-- the first line begins there
pub begins : (bytes : List ℕ) (at : ℕ) → at < length bytes → is_line_end (get_or bytes at 0) ≡ false → first_line (drop at bytes) ≡ first_line bytes
    → line_at (take (length bytes - at) (drop at bytes)) ≡ first_line bytes
begins bytes at inside other so_far =
    let cut : drop at bytes ≡ get_or bytes at 0 ∷ drop (suc at) bytes = drop-cons bytes at 0 inside in
    ap line_at (take_rest bytes at ∙ cut) ∙ in_line (get_or bytes at 0) (drop (suc at) bytes) other
    ∙ sym (at_line (get_or bytes at 0) (drop (suc at) bytes) other) ∙ ap first_line (sym cut) ∙ so_far

-- there is none
pub is_none : (bytes : List ℕ) (at : ℕ) → length bytes ≤ at → first_line (drop at bytes) ≡ first_line bytes → ◌≡◌ {A = List ℕ} [] (first_line bytes)
is_none bytes at over so_far = sym (ap first_line (drop_all at bytes over)) ∙ so_far
