-- The loop over the parts of a name.
use Rattle.std.proofs.Common.{◌≡◌, ◌≤◌, ◌+◌, ℕ, Bool, true, false, List, [], ◌∷◌, ◌++◌, length, refl, sym, ap, subst, ◌∙◌, append_assoc, arith}
use Rattle.std.specs.Prelude.{if◌then◌else◌, nat_eq, ◌&&◌}
use Rattle.bibtex_spec.specs.Values.{depth_behind, grow}
use Rattle.bibtex_source.specs.Readable.{comma_parts}
use Rattle.bibtex_source.proofs.Tidied.{begun, begun_more, begun_ends, begun_splits, goes_deeper}

-- `found` are the parts that were read, `part` is the start of the next one, and `rest` is still to be read
abbrev pub IsCut : List (List ℕ) → List ℕ → ℕ → List ℕ → List ℕ → Type 0
IsCut found part depth rest name =
    (found ++ begun part (comma_parts depth rest) ≡ comma_parts 0 name) × (depth + length rest ≤ length name)

at_comma : (b : ℕ) (later : List ℕ) (depth : ℕ) → (nat_eq depth 0 && nat_eq b 44) ≡ true → comma_parts depth (b ∷ later) ≡ [] ∷ comma_parts depth later
at_comma b later depth is = rw is refl

no_comma : (b : ℕ) (later : List ℕ) (depth : ℕ) → (nat_eq depth 0 && nat_eq b 44) ≡ false → comma_parts depth (b ∷ later) ≡ grow b (comma_parts (depth_behind depth b) later)
no_comma b later depth is = rw is refl

pub cut_at_comma : (found : List (List ℕ)) (part rest later name made : List ℕ) (depth b : ℕ) → rest ≡ b ∷ later → (nat_eq depth 0 && nat_eq b 44) ≡ true → made ≡ part
    → IsCut found part depth rest name → IsCut (found ++ made ∷ []) [] depth later name
cut_at_comma found part rest later name made depth b split is same (so_far, short) = (
  append_assoc found (made ∷ []) (comma_parts depth later)
      ∙ ap (λ t. found ++ t ∷ comma_parts depth later) same
      ∙ ap (λ ps. found ++ ps) (sym (begun_splits part (comma_parts depth later)))
      ∙ ap (λ ps. found ++ begun part ps) (sym (ap (comma_parts depth) split ∙ at_comma b later depth is)) ∙ so_far,
  omega (arith, ap length split, short),
)

pub cut_goes_on : (found : List (List ℕ)) (part rest later name : List ℕ) (depth next b : ℕ) → rest ≡ b ∷ later → (nat_eq depth 0 && nat_eq b 44) ≡ false → next ≡ depth_behind depth b
    → IsCut found part depth rest name → IsCut found (part ++ b ∷ []) next later name
cut_goes_on found part rest later name depth next b split is deeper (so_far, short) = (
  ap (λ ps. found ++ ps) (begun_more part b (comma_parts next later)
      ∙ ap (λ d. begun part (grow b (comma_parts d later))) deeper
      ∙ ap (begun part) (sym (ap (comma_parts depth) split ∙ no_comma b later depth is))) ∙ so_far,
  omega (arith, goes_deeper depth b, deeper, ap length split, short),
)

pub cut_ends : (found : List (List ℕ)) (part rest name made : List ℕ) (depth : ℕ) → length rest ≡ 0 → made ≡ part → IsCut found part depth rest name → found ++ made ∷ [] ≡ comma_parts 0 name
cut_ends found part (b ∷ rest) name made depth none same h = absurd (omega (arith, none))
cut_ends found part [] name made depth none same (so_far, short) =
    ap (λ t. found ++ t ∷ []) same ∙ ap (λ ps. found ++ ps) (sym (begun_ends part)) ∙ so_far
