-- Expressions with too many positions to be searched.
use Rattle.std.proofs.Common.{◌≡◌, ℕ, ◌<◌, ◌≤◌, ◌⊎◌, ◌↔◌, IsTrue, Bool, true, false, arith, sym, ◌∙◌, inl, inr}
use Rattle.rpe.specs.Regex.{Regex}
use Rattle.rpe.specs.Language.{positions}
use Rattle.constraint_spec.specs.Entailed.{IsIncluded}
use Rattle.query_parts.specs.Same.{same_regex}
use Rattle.query_parts.proofs.Same.{regex_decides}

pub beyond : (n : ℕ) (few : Bool) → IsTrue few ↔ (n ≤ 16) → few ≡ false → 16 < n
beyond n few is not_few = let more : n ≤ 16 → ⊥ = λ l. (let told : few ≡ true = is.1 l in cc) in omega (arith, more)

-- of these the test of sameness decides inclusion
pub large_decided : (a b : Regex) (same : Bool) → same ≡ same_regex a b → (16 < positions a) ⊎ (16 < positions b) → IsTrue same ↔ IsIncluded a b
large_decided a b same is large = (
  λ t. inr (record { large = large; same = (regex_decides a b).0 (sym is ∙ t) }),
  elim [
    | inl small ↦ absurd (elim large [ inl l ↦ omega (arith, l, small.small_a) | inr l ↦ omega (arith, l, small.small_b) ])
    | inr equal ↦ is ∙ (regex_decides a b).1 equal.same
  ],
)
