use Rattle.std.proofs.Common.{◌≡◌, ◌==◌, refl, sym, ◌∙◌, ap, true, false, ℕ, Bool, length, arith, IsTrue, not}
use Rattle.std.proofs.lemmas.Bool.Decides.{nat_tests}
use Rattle.list_lookup.specs.PickedLaws.{none_in_place, one_in_place}
use Rattle.list_lookup.proofs.has.Goals as goal

is_zero : (n : ℕ) → true ≡ (n == 0) → n ≡ 0
is_zero n h = grind (arith, nat_tests)

not_zero : (n : ℕ) → false ≡ (n == 0) → n ≡ 0 → ⊥
not_zero n h e = grind (arith, nat_tests)

answers : (b : Bool) (n : ℕ) (P : Type 0) → b ≡ (n == 0) → ((n ≡ 0 → ⊥) → P) → (n ≡ 0 → P → ⊥) → (IsTrue (not b) → P) × (P → IsTrue (not b))
answers true n P is some none = (λ t. cc, λ p. absurd (none (is_zero n is) p))
answers false n P is some none = (λ t. some (not_zero n is), λ p. refl)

pub returns : goal.returns
returns g c =
    let same = ap length c.part.ensures in
    answers c.is_empty.result (length c.part.result.now) _ c.is_empty.ensures
    (λ some. one_in_place (g.Q.Query.at c.args.query.now) c.args.items.now (λ none. some (same ∙ none)))
    (λ none. none_in_place (g.Q.Query.at c.args.query.now) c.args.items.now (sym same ∙ none))
