-- The body of a reply, from its front.
use Rattle.std.proofs.Common.{◌≡◌, ℕ, ◌+◌, ◌-◌, ◌<◌, ◌≤◌, suc, Bool, true, false, List, ◌∷◌, length, take, drop, refl, sym, ap, ◌∙◌, arith, get_or, drop-cons, codes}
use Rattle.std.specs.List.{starts_with}
use Rattle.std.specs.Prelude.{nat_eq}
use Rattle.std.proofs.lemmas.List.{drop_all, length-drop, take_rest}
use Rattle.access_line.specs.Line.{body_of}

-- the bytes begin with an empty line
abbrev pub is_blank : List ℕ → Bool
is_blank bytes = starts_with nat_eq bytes (codes "\r\n\r\n")

passed : (b : ℕ) (rest : List ℕ) → is_blank (b ∷ rest) ≡ false → body_of (b ∷ rest) ≡ body_of rest
passed b rest other = rw other refl

met : (b : ℕ) (rest : List ℕ) → is_blank (b ∷ rest) ≡ true → body_of (b ∷ rest) ≡ drop 4 (b ∷ rest)
met b rest blank = rw blank refl

-- what is left of the reply from a place on, as a slice of it
abbrev pub rest_at : ℕ → List ℕ → List ℕ
rest_at at reply = take (length reply - at) (drop at reply)

-- one byte further
pub goes_on : (reply : List ℕ) (at : ℕ) → at < length reply → is_blank (rest_at at reply) ≡ false → body_of (drop at reply) ≡ body_of reply
    → body_of (drop (at + 1) reply) ≡ body_of reply
goes_on reply at inside other so_far =
    let cut : drop at reply ≡ get_or reply at 0 ∷ drop (suc at) reply = drop-cons reply at 0 inside in
    let not_here : is_blank (get_or reply at 0 ∷ drop (suc at) reply) ≡ false = ap is_blank (sym cut) ∙ sym (ap is_blank (take_rest reply at)) ∙ other in
    let next : at + 1 ≡ suc at = omega arith in
    ap (λ n. body_of (drop n reply)) next ∙ sym (passed (get_or reply at 0) (drop (suc at) reply) not_here) ∙ ap body_of (sym cut) ∙ so_far

-- the empty line is here
pub is_here : (reply : List ℕ) (at : ℕ) → at < length reply → is_blank (rest_at at reply) ≡ true → body_of (drop at reply) ≡ body_of reply
    → (length reply - at) - 4 ≡ length (body_of reply)
is_here reply at inside blank so_far =
    let cut : drop at reply ≡ get_or reply at 0 ∷ drop (suc at) reply = drop-cons reply at 0 inside in
    let here : is_blank (get_or reply at 0 ∷ drop (suc at) reply) ≡ true = ap is_blank (sym cut) ∙ sym (ap is_blank (take_rest reply at)) ∙ blank in
    let body : body_of (drop at reply) ≡ drop 4 (drop at reply) = ap body_of cut ∙ met (get_or reply at 0) (drop (suc at) reply) here ∙ ap (drop 4) (sym cut) in
    sym (ap length (sym so_far ∙ body) ∙ length-drop 4 (drop at reply) ∙ ap (λ n. n - 4) (length-drop at reply))

-- there is none
pub is_nowhere : (reply : List ℕ) (at : ℕ) → length reply ≤ at → body_of (drop at reply) ≡ body_of reply → 0 ≡ length (body_of reply)
is_nowhere reply at over so_far = ap length (sym (ap body_of (drop_all at reply over)) ∙ so_far)
