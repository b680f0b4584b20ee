-- What a byte does to a text between an opening byte and the one that closes.
use Rattle.std.proofs.Common.{◌≡◌, ◌+◌, ◌-◌, ◌≤◌, ◌<◌, ℕ, zero, suc, Bool, true, false, List, [], ◌∷◌, ◌++◌, refl, sym, ap, subst, ◌∙◌, arith}
use Rattle.std.specs.Prelude.{nat_eq, nat_lt, if◌then◌else◌}
use Rattle.std.proofs.lemmas.Bool.{eqb-true, eqb-false}
use Rattle.std.proofs.lemmas.Bool.Decides.{nat_tests}
use Rattle.bibtex_spec.specs.declared.Nesting.TheVariants.{Closes, Unpaired, TooDeep, Goes}
use Rattle.bibtex_spec.specs.Reading.{nesting}
use Rattle.bibtex_laws.specs.Braces.{single, count, IsEnclosed, IsShallow}

single_other : (mark b : ℕ) → nat_eq b mark ≡ false → single mark b ≡ 0
single_other mark b is = rw is refl

-- where `outer` are open before it, what the byte b does
pub data Step (close outer b : ℕ) : Type 0 where
  Closed : nesting close (suc outer) b ≡ Closes → outer ≡ 0 → b ≡ close → Step close outer b
  Bare : nesting close (suc outer) b ≡ Unpaired → outer ≡ 0 → b ≡ 125 → Step close outer b
  Deep : nesting close (suc outer) b ≡ TooDeep → b ≡ 123 → 63 ≤ outer → Step close outer b
  On : (next : ℕ) → nesting close (suc outer) b ≡ Goes (suc next) → next + single 125 b ≡ outer + single 123 b
      → (outer ≡ 0 → b ≡ close → ⊥) → (outer ≤ 63 → next ≤ 63) → Step close outer b

module _ (close outer b : ℕ) where
  opens : b ≡ 123 → (outer ≡ 0 → b ≡ close → ⊥) → (p : Bool) → nat_lt (suc outer) 64 ≡ p
      → nesting close (suc outer) b ≡ (if p then Goes (suc outer + 1) else TooDeep) → Step close outer b
  opens same inner true few is =
      On (suc outer) (is ∙ ap Goes (omega arith)) (subst (λ x. suc outer + single 125 x ≡ outer + single 123 x) (sym same) (omega arith)) inner (λ _. grind (arith, nat_tests))
  opens same inner false few is = Deep is same (grind (arith, nat_tests))

  shuts : (n : ℕ) → outer ≡ n → b ≡ 125 → (outer ≡ 0 → b ≡ close → ⊥) → (outer ≡ 0 → ⊥) → nesting close (suc outer) b ≡ Goes (suc outer - 1) → Step close outer b
  shuts zero is same inner some goes = absurd (some is)
  shuts (suc m) is same inner some goes =
      On m (goes ∙ ap Goes (omega (arith, is))) (subst (λ x. m + single 125 x ≡ outer + single 123 x) (sym same) (omega (arith, is))) inner (λ h. omega (arith, h, is))

  stays : nat_eq b 123 ≡ false → nat_eq b 125 ≡ false → (outer ≡ 0 → b ≡ close → ⊥) → nesting close (suc outer) b ≡ Goes (suc outer) → Step close outer b
  stays no_open no_shut inner goes = On outer goes (omega (arith, single_other 123 b no_open, single_other 125 b no_shut)) inner (λ h. h)

  pub step : Step close outer b
  step = by (nat_eq (suc outer) 1) (nat_eq b close) (nat_eq b 123) (nat_eq b 125) refl refl refl refl
    where
      by : (p q r s : Bool) → nat_eq (suc outer) 1 ≡ p → nat_eq b close ≡ q → nat_eq b 123 ≡ r → nat_eq b 125 ≡ s → Step close outer b
      by true true r s e1 e2 e3 e4 = Closed (rw (e1, e2) refl) (let k = eqb-true (suc outer) 1 e1 in omega arith) (eqb-true b close e2)
      by true false true s e1 e2 e3 e4 = opens (eqb-true b 123 e3) (λ _ h. eqb-false b close e2 h) (nat_lt (suc outer) 64) refl (rw (e1, e2, e3) refl)
      by true false false true e1 e2 e3 e4 = Bare (rw (e1, e2, e3, e4) refl) (let k = eqb-true (suc outer) 1 e1 in omega arith) (eqb-true b 125 e4)
      by true false false false e1 e2 e3 e4 = stays e3 e4 (λ _ h. eqb-false b close e2 h) (rw (e1, e2, e3, e4) refl)
      by false q true s e1 e2 e3 e4 = opens (eqb-true b 123 e3) (λ h _. eqb-false (suc outer) 1 e1 (omega (arith, h))) (nat_lt (suc outer) 64) refl (rw (e1, e3) refl)
      by false q false true e1 e2 e3 e4 = shuts outer refl (eqb-true b 125 e4) (λ h _. eqb-false (suc outer) 1 e1 (omega (arith, h))) (λ h. eqb-false (suc outer) 1 e1 (omega (arith, h))) (rw (e1, e3, e4) refl)
      by false q false false e1 e2 e3 e4 = stays e3 e4 (λ h _. eqb-false (suc outer) 1 e1 (omega (arith, h))) (rw (e1, e3, e4) refl)

-- an enclosed text, a byte at a time

no_text : (front back : List ℕ) → [] ≡ front ++ back → front ≡ []
no_text [] back e = refl
no_text (x ∷ front) back e = absurd cc

no_byte : (front back : List ℕ) (b : ℕ) → [] ≡ front ++ (b ∷ back) → ⊥
no_byte [] back b e = cc
no_byte (x ∷ front) back b e = cc

module _ (close : ℕ) where
  pub enclosed_none : (outer : ℕ) → outer ≡ 0 → IsEnclosed outer close []
  enclosed_none outer is = record {
    fronts = λ front back e. rw (no_text front back e) (omega arith);
    whole = omega (arith, is);
    inner = λ front back e. absurd (no_byte front back close e);
  }

  module _ (outer next b : ℕ) (moves : next + single 125 b ≡ outer + single 123 b) (apart : outer ≡ 0 → b ≡ close → ⊥) where
    fronts_more : (text : List ℕ) → IsEnclosed next close text → (front back : List ℕ) → b ∷ text ≡ front ++ back → count 125 front ≤ outer + count 123 front
    fronts_more text h [] back e = omega arith
    fronts_more text h (x ∷ front) back e =
        let same : b ≡ x = cc in
        let rest : text ≡ front ++ back = cc in
        let k : count 125 front ≤ next + count 123 front = h.fronts front back rest in
        subst (λ y. single 125 y + count 125 front ≤ outer + (single 123 y + count 123 front)) same (omega (arith, k, moves))

    some_open : (n : ℕ) → outer ≡ n → b ≡ close → 0 < outer
    some_open zero is same = absurd (apart is same)
    some_open (suc n) is same = omega (arith, is)

    inner_more : (text : List ℕ) → IsEnclosed next close text → (front back : List ℕ) → b ∷ text ≡ front ++ (close ∷ back) → count 125 front < outer + count 123 front
    inner_more text h [] back e =
        let same : b ≡ close = cc in
        let k : 0 < outer = some_open outer refl same in
        omega (arith, k)
    inner_more text h (x ∷ front) back e =
        let same : b ≡ x = cc in
        let rest : text ≡ front ++ (close ∷ back) = cc in
        let k : count 125 front < next + count 123 front = h.inner front back rest in
        subst (λ y. single 125 y + count 125 front < outer + (single 123 y + count 123 front)) same (omega (arith, k, moves))

    pub enclosed_more : (text : List ℕ) → IsEnclosed next close text → IsEnclosed outer close (b ∷ text)
    enclosed_more text h = record {
      fronts = fronts_more text h;
      whole = let k : count 125 text ≡ next + count 123 text = h.whole in omega (arith, k, moves);
      inner = inner_more text h;
    }

    pub enclosed_less : (text : List ℕ) → IsEnclosed outer close (b ∷ text) → IsEnclosed next close text
    enclosed_less text h = record {
      fronts = λ front back e.
          let k : single 125 b + count 125 front ≤ outer + (single 123 b + count 123 front) = h.fronts (b ∷ front) back (ap (λ x. b ∷ x) e) in
          omega (arith, k, moves);
      whole = let k : single 125 b + count 125 text ≡ outer + (single 123 b + count 123 text) = h.whole in omega (arith, k, moves);
      inner = λ front back e.
          let k : single 125 b + count 125 front < outer + (single 123 b + count 123 front) = h.inner (b ∷ front) back (ap (λ x. b ∷ x) e) in
          omega (arith, k, moves);
    }

    pub shallow_more : outer ≤ 63 → (text : List ℕ) → IsShallow next text → IsShallow outer (b ∷ text)
    shallow_more few text h [] back e = omega (arith, few)
    shallow_more few text h (x ∷ front) back e =
        let same : b ≡ x = cc in
        let rest : text ≡ front ++ back = cc in
        let k : next + count 123 front ≤ count 125 front + 63 = h front back rest in
        subst (λ y. outer + (single 123 y + count 123 front) ≤ single 125 y + count 125 front + 63) same (omega (arith, k, moves))

    pub shallow_less : (text : List ℕ) → IsShallow outer (b ∷ text) → IsShallow next text
    shallow_less text h front back e =
        let k : outer + (single 123 b + count 123 front) ≤ single 125 b + count 125 front + 63 = h (b ∷ front) back (ap (λ x. b ∷ x) e) in
        omega (arith, k, moves)

  pub shallow_none : (outer : ℕ) → outer ≤ 63 → IsShallow outer []
  shallow_none outer few front back e = rw (no_text front back e) (omega (arith, few))

  -- so many closing braces
  unfoldable pub closers : ℕ → List ℕ
  closers zero = []
  closers (suc n) = 125 ∷ closers n

  pub closers_enclosed : (n : ℕ) → IsEnclosed n close (closers n)
  unfolding closers
  closers_enclosed zero = enclosed_none 0 refl
  closers_enclosed (suc n) = enclosed_more (suc n) n 125 (omega arith) (λ h _. absurd (omega (arith, h))) (closers n) (closers_enclosed n)

  pub closers_shallow : (n : ℕ) → n ≤ 63 → IsShallow n (closers n)
  unfolding closers
  closers_shallow zero few = shallow_none 0 few
  closers_shallow (suc n) few = shallow_more (suc n) n 125 (omega arith) (λ h _. absurd (omega (arith, h))) few (closers n) (closers_shallow n (omega (arith, few)))
