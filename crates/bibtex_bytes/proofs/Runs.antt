-- Loops that read the longest run of a class of bytes.
use Rattle.std.proofs.Common.{◌≡◌, ◌≤◌, ℕ, Bool, true, false, List, [], ◌∷◌, ◌++◌, length, refl, sym, ap, ◌∙◌, append_assoc, arith}
use Rattle.std.specs.Prelude.{map}
use Rattle.bibtex_spec.specs.Bytes.{lower, run, behind}

-- `word` has been read of the run, and `rest` is still to be read
pub record IsFront (belongs : ℕ → Bool) (word rest bytes : List ℕ) : Type 0 where
  pub reads : word ++ run belongs rest ≡ run belongs bytes
  pub leaves : behind belongs rest ≡ behind belongs bytes
  pub shorter : length rest ≤ length bytes

pub record IsLowerFront (belongs : ℕ → Bool) (word rest bytes : List ℕ) : Type 0 where
  pub reads : word ++ map lower (run belongs rest) ≡ map lower (run belongs bytes)
  pub leaves : behind belongs rest ≡ behind belongs bytes
  pub shorter : length rest ≤ length bytes

module _ (belongs : ℕ → Bool) where
  pub run_goes_on : (b : ℕ) (later : List ℕ) → belongs b ≡ true → run belongs (b ∷ later) ≡ b ∷ run belongs later
  run_goes_on b later is = rw is refl

  pub behind_goes_on : (b : ℕ) (later : List ℕ) → belongs b ≡ true → behind belongs (b ∷ later) ≡ behind belongs later
  behind_goes_on b later is = rw is refl

  pub behind_stops : (b : ℕ) (later : List ℕ) → belongs b ≡ false → behind belongs (b ∷ later) ≡ b ∷ later
  behind_stops b later is = rw is refl

  pub front_more : (word rest later bytes : List ℕ) (b : ℕ) → rest ≡ b ∷ later → belongs b ≡ true → IsFront belongs word rest bytes → IsFront belongs (word ++ b ∷ []) later bytes
  front_more word rest later bytes b split is so_far = record {
    reads = append_assoc word (b ∷ []) (run belongs later) ∙ ap (λ ys. word ++ ys) (sym (ap (run belongs) split ∙ run_goes_on b later is)) ∙ so_far.reads;
    leaves = sym (ap (behind belongs) split ∙ behind_goes_on b later is) ∙ so_far.leaves;
    shorter = omega (arith, ap length split, so_far.shorter);
  }
