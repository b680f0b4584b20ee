-- Loops over the bytes of a value.
use Rattle.std.proofs.Common.{◌≡◌, ◌≤◌, ◌+◌, ℕ, Bool, true, false, List, [], ◌∷◌, ◌++◌, length, drop, refl, sym, ap, subst, ◌∙◌, append_assoc, arith}
use Rattle.std.specs.Prelude.{◌-◌, map, if◌then◌else◌, nat_eq, ◌&&◌}
use Rattle.std.proofs.lemmas.Bool.{eqb-true}
use Rattle.bibtex_spec.specs.Values.{tidy, begins_and, depth_behind, grow, parts_from, parts}

-- Parts of a text.

-- what was read of the first part
abbrev pub begun : List ℕ → List (List ℕ) → List (List ℕ)
begun [] parts = parts
begun (b ∷ part) parts = grow b (begun part parts)

pub begun_more : (part : List ℕ) (b : ℕ) (ps : List (List ℕ)) → begun (part ++ b ∷ []) ps ≡ begun part (grow b ps)
begun_more [] b ps = refl
begun_more (x ∷ part) b ps = ap (grow x) (begun_more part b ps)

pub begun_ends : (part : List ℕ) → begun part ([] ∷ []) ≡ part ∷ []
begun_ends [] = refl
begun_ends (b ∷ part) = ap (grow b) (begun_ends part)

pub begun_splits : (part : List ℕ) (ps : List (List ℕ)) → begun part ([] ∷ ps) ≡ part ∷ ps
begun_splits [] ps = refl
begun_splits (b ∷ part) ps = ap (grow b) (begun_splits part ps)

-- `found` are the parts that were read, `part` is the start of the next one, and `rest` is still to be read
abbrev pub IsSplit : List (List ℕ) → List ℕ → ℕ → List ℕ → List ℕ → Type 0
IsSplit found part depth rest text =
    (found ++ map tidy (begun part (parts_from 0 depth rest)) ≡ map tidy (parts text))
    × (depth + length rest ≤ length text)

passes_three : (b c d : ℕ) (rest : List ℕ) → parts_from 3 0 (b ∷ c ∷ d ∷ rest) ≡ parts_from 0 0 rest
passes_three b c d [] = refl
passes_three b c d (e ∷ rest) = refl

at_and : (bytes : List ℕ) → begins_and bytes ≡ true → parts_from 0 0 bytes ≡ [] ∷ parts_from 0 0 (drop 4 bytes)
at_and [] is = absurd cc
at_and (a ∷ []) is = absurd cc
at_and (a ∷ b ∷ []) is = absurd cc
at_and (a ∷ b ∷ c ∷ []) is = absurd cc
at_and (a ∷ b ∷ c ∷ d ∷ []) is = absurd cc
at_and (a ∷ b ∷ c ∷ d ∷ e ∷ bytes) is = rw is (ap (λ ps. [] ∷ ps) (passes_three b c d (e ∷ bytes)))

pub split_at_and : (found : List (List ℕ)) (part rest behind text tidied : List ℕ) (depth : ℕ) → depth ≡ 0 → begins_and rest ≡ true → behind ≡ drop 4 rest → tidied ≡ tidy part
    → IsSplit found part depth rest text → IsSplit (found ++ tidied ∷ []) [] depth behind text
split_at_and found part rest behind text tidied depth none is left made (so_far, short) =
    let here : begun part (parts_from 0 depth rest) ≡ part ∷ parts_from 0 0 behind =
    ap (λ d. begun part (parts_from 0 d rest)) none ∙ ap (begun part) (at_and rest is) ∙ begun_splits part (parts_from 0 0 (drop 4 rest)) ∙ ap (λ bs. part ∷ parts_from 0 0 bs) (sym left) in
    let fewer : length behind ≤ length rest = fewer_left rest behind left in (
      append_assoc found (tidied ∷ []) (map tidy (parts_from 0 depth behind))
          ∙ ap (λ t. found ++ t ∷ map tidy (parts_from 0 depth behind)) made
          ∙ ap (λ d. found ++ tidy part ∷ map tidy (parts_from 0 d behind)) none
          ∙ ap (λ ps. found ++ map tidy ps) (sym here) ∙ so_far,
      omega (arith, fewer, short),
    )
  where
    fewer_left : (rest behind : List ℕ) → behind ≡ drop 4 rest → length behind ≤ length rest
    fewer_left [] behind left = omega (arith, ap length left)
    fewer_left (a ∷ []) behind left = omega (arith, ap length left)
    fewer_left (a ∷ b ∷ []) behind left = omega (arith, ap length left)
    fewer_left (a ∷ b ∷ c ∷ []) behind left = omega (arith, ap length left)
    fewer_left (a ∷ b ∷ c ∷ d ∷ rest) behind left = omega (arith, ap length left)

pub goes_deeper : (depth b : ℕ) → depth_behind depth b ≤ depth + 1
goes_deeper depth b = by (nat_eq b 123) (nat_eq b 125)
  where
    by : (p q : Bool) → (if p then depth + 1 else if q then depth - 1 else depth) ≤ depth + 1
    by true q = omega arith
    by false true = omega arith
    by false false = omega arith

not_and : (b : ℕ) (later : List ℕ) (depth : ℕ) → (nat_eq depth 0 && begins_and (b ∷ later)) ≡ false → parts_from 0 depth (b ∷ later) ≡ grow b (parts_from 0 (depth_behind depth b) later)
not_and b later depth is = rw is refl

pub split_goes_on : (found : List (List ℕ)) (part rest later text : List ℕ) (depth next b : ℕ) → rest ≡ b ∷ later → (nat_eq depth 0 && begins_and rest) ≡ false → next ≡ depth_behind depth b
    → IsSplit found part depth rest text → IsSplit found (part ++ b ∷ []) next later text
split_goes_on found part rest later text depth next b split is deeper (so_far, short) = (
  ap (λ ps. found ++ map tidy ps) (begun_more part b (parts_from 0 next later)
      ∙ ap (λ d. begun part (grow b (parts_from 0 d later))) deeper
      ∙ ap (begun part) (sym (ap (parts_from 0 depth) split ∙ not_and b later depth (subst (λ xs. (nat_eq depth 0 && begins_and xs) ≡ false) split is)))) ∙ so_far,
  omega (arith, goes_deeper depth b, deeper, ap length split, short),
)

pub split_ends : (found : List (List ℕ)) (part rest text tidied : List ℕ) (depth : ℕ) → rest ≡ [] → tidied ≡ tidy part → IsSplit found part depth rest text → found ++ tidied ∷ [] ≡ map tidy (parts text)
split_ends found part rest text tidied depth none made (so_far, short) =
    ap (λ t. found ++ t ∷ []) made ∙ ap (λ ps. found ++ map tidy ps) (sym (ap (λ xs. begun part (parts_from 0 depth xs)) none ∙ begun_ends part)) ∙ so_far

-- what the tests have told

pub both : (p q : Bool) → (p && q) ≡ true → (p ≡ true) × (q ≡ true)
both true q is = (refl, is)
both false q is = absurd cc

pub no_depth : (depth : ℕ) → nat_eq depth 0 ≡ true → depth ≡ 0
no_depth depth is = eqb-true depth 0 is

pub none_left : (bytes : List ℕ) → length bytes ≡ 0 → bytes ≡ []
none_left [] is = refl
none_left (b ∷ bytes) is = absurd (omega (arith, is))
