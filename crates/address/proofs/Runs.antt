-- Runs of bytes without a slash.
use Rattle.std.proofs.Common.{◌≡◌, ◌⊎◌, ℕ, ◌+◌, ◌<◌, ◌≤◌, List, [], ◌∷◌, ◌++◌, length, inl, inr, sym, ap, ◌∙◌, refl, arith}
use Rattle.std.proofs.lemmas.List.Elements.{All-nil, All-cons, All-head, All-tail}
use Rattle.page_spec.specs.declared.TheConstants.{NAME_LIMIT}
use Rattle.address.specs.Segments.{HasNoSlash, HasLongSegment}

abbrev IsOther : ℕ → Type 0
IsOther b = b ≡ 47 → ⊥

-- after `run` bytes without a slash, these bytes bring more than a name may have
abbrev pub IsLongAfter : ℕ → List ℕ → Type 0
IsLongAfter run bs = ((p r : List ℕ) × (bs ≡ p ++ r) × HasNoSlash p × (NAME_LIMIT < run + length p)) ⊎ HasLongSegment bs

rest_same : (a b : ℕ) (xs ys : List ℕ) → a ∷ xs ≡ b ∷ ys → xs ≡ ys
rest_same a b xs ys e = cc

first_same : (a b : ℕ) (xs ys : List ℕ) → a ∷ xs ≡ b ∷ ys → a ≡ b
first_same a b xs ys e = cc

none_in_nothing : (before segment after : List ℕ) → [] ≡ before ++ segment ++ after → length segment ≡ 0
none_in_nothing [] [] after e = refl
none_in_nothing [] (b ∷ segment) after e = let f : ⊥ = cc in absurd f
none_in_nothing (b ∷ before) segment after e = let f : ⊥ = cc in absurd f

pub after_slash : (run b : ℕ) (bs : List ℕ) → run ≤ NAME_LIMIT → b ≡ 47 → IsLongAfter run (b ∷ bs) → IsLongAfter 0 bs
after_slash run b bs small is (inl ([], r, e, n, l)) = absurd (omega (arith, l, small))
after_slash run b bs small is (inl (c ∷ p, r, e, n, l)) = absurd (All-head IsOther c p n (sym (first_same b c bs (p ++ r) e) ∙ is))
after_slash run b bs small is (inr ([], [], after, e, n, l)) = absurd (omega (arith, l))
after_slash run b bs small is (inr ([], c ∷ segment, after, e, n, l)) = absurd (All-head IsOther c segment n (sym (first_same b c bs (segment ++ after) e) ∙ is))
after_slash run b bs small is (inr (c ∷ before, segment, after, e, n, l)) = inr (before, segment, after, rest_same b c bs (before ++ segment ++ after) e, n, l)

pub before_slash : (run b : ℕ) (bs : List ℕ) → IsLongAfter 0 bs → IsLongAfter run (b ∷ bs)
before_slash run b bs (inl (p, r, e, n, l)) = inr (b ∷ [], p, r, ap (λ z. b ∷ z) e, n, omega (arith, l))
before_slash run b bs (inr (before, segment, after, e, n, l)) = inr (b ∷ before, segment, after, ap (λ z. b ∷ z) e, n, l)

pub after_other : (run b : ℕ) (bs : List ℕ) → run + 1 ≤ NAME_LIMIT → IsLongAfter run (b ∷ bs) → IsLongAfter (run + 1) bs
after_other run b bs small (inl ([], r, e, n, l)) = absurd (omega (arith, l, small))
after_other run b bs small (inl (c ∷ p, r, e, n, l)) = inl (p, r, rest_same b c bs (p ++ r) e, All-tail IsOther c p n, omega (arith, l))
after_other run b bs small (inr ([], [], after, e, n, l)) = absurd (omega (arith, l))
after_other run b bs small (inr ([], c ∷ segment, after, e, n, l)) = inl (segment, after, rest_same b c bs (segment ++ after) e, All-tail IsOther c segment n, omega (arith, l))
after_other run b bs small (inr (c ∷ before, segment, after, e, n, l)) = inr (before, segment, after, rest_same b c bs (before ++ segment ++ after) e, n, l)

pub before_other : (run b : ℕ) (bs : List ℕ) → (b ≡ 47 → ⊥) → IsLongAfter (run + 1) bs → IsLongAfter run (b ∷ bs)
before_other run b bs other (inl (p, r, e, n, l)) = inl (b ∷ p, r, ap (λ z. b ∷ z) e, All-cons IsOther b p other n, omega (arith, l))
before_other run b bs other (inr (before, segment, after, e, n, l)) = inr (b ∷ before, segment, after, ap (λ z. b ∷ z) e, n, l)

pub found_long : (run b : ℕ) (bs : List ℕ) → run ≡ NAME_LIMIT → (b ≡ 47 → ⊥) → IsLongAfter run (b ∷ bs)
found_long run b bs full other = inl (b ∷ [], bs, refl, All-cons IsOther b [] other (All-nil IsOther), omega (arith, full))

pub long_at_start : (bs : List ℕ) → IsLongAfter 0 bs → HasLongSegment bs
long_at_start bs (inl (p, r, e, n, l)) = ([], p, r, e, n, omega (arith, l))
long_at_start bs (inr h) = h
