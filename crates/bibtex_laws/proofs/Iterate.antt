-- A reader that goes on for as long as a step begins reads any number of steps.
use Rattle.std.proofs.Common.{◌≡◌, ℕ, zero, suc, ◌<◌, Bool, true, false, List, [], ◌∷◌, ◌++◌, length, refl, sym, ap, subst, ◌∙◌, append_assoc, inl, inr, arith, length-append}
use Rattle.grammar.specs.Grammar.{nothing, ◌>>=◌, either, steps, iterated}
use Rattle.grammar.specs.Reading.{Outcome, Read, and_then, starts, iterate}
use Rattle.grammar.proofs.Iterate.{iterate_turn}
use Rattle.bibtex_laws.proofs.Laws.{Reads, weaken, restate, give_reads, then_reads, choose_reads}

module _ {T S : Type 0} (Real : T → Type 0) (Why : List T → (T → Bool) → Type 0) (first : T → Bool) (P U : S → List T → S → Type 0) (G F : List T → Type 0) (step : S → List T → Outcome T S)
    (begins : (state : S) (x : List T) (v : S) (rest : List T) → U state x v → starts first (x ++ rest) ≡ true)
    (stops : (rest : List T) → F rest → starts first rest ≡ false)
    (between : (y : List T) (state last : S) (rest : List T) → iterated U state y last → F rest → G (y ++ rest)) where
  to_iterated : (W : S → List T → S → Type 0) (state : S) (x : List T) (v : S) → either (W state >>= λ next. iterated W next) (nothing state) x v → iterated W state x v
  to_iterated W state x v (inr h) = (0, h)
  to_iterated W state x v (inl h) = (suc h.5.0, (h.0, h.1, h.2, h.3, h.4, h.5.1))

  steps_from : (W : S → List T → S → Type 0) (state : S) (x : List T) (v : S) (n : ℕ) → steps W n state x v → either (W state >>= λ next. iterated W next) (nothing state) x v
  steps_from W state x v zero h = inr h
  steps_from W state x v (suc n) h = inl (h.0, h.1, h.2, h.3, h.4, (n, h.5))

  from_iterated : (W : S → List T → S → Type 0) (state : S) (x : List T) (v : S) → iterated W state x v → either (W state >>= λ next. iterated W next) (nothing state) x v
  from_iterated W state x v h = steps_from W state x v h.0 h.1

  behind_none : (x rest : List T) → x ≡ [] → F rest → F (x ++ rest)
  behind_none x rest e f = rw e f

  module _ (reads : (state : S) (ts : List T) → Reads Real Why (P state) (U state) G (step state) ts) where
    grew : (state : S) (x ts : List T) (value : S) (rest : List T) → ts ≡ x ++ rest → U state x value → length rest < length ts
    grew state [] ts value rest e h = let none = begins state [] value [] h in absurd cc
    grew state (t ∷ x) ts value rest e h = omega (arith, ap length e, length-append x rest)

    pub shrinks : (state : S) (ts : List T) (value : S) (rest : List T) → starts first ts ≡ true → step state ts ≡ Read value rest → length rest < length ts
    shrinks state ts value rest is was =
        let a = (reads state ts).core.sound value rest was in
        grew state a.0 ts value rest a.1 ((reads state ts).core.within a.0 value a.2)

    others : (state : S) (x : List T) (v : S) (rest : List T) → nothing state x v → F rest → starts first (x ++ rest) ≡ false
    others state x v rest h f = stops (x ++ rest) (behind_none x rest h.0 f)

    first_step : (state : S) (x : List T) (v : S) (rest : List T) → (U state >>= λ next. iterated U next) x v → starts first (x ++ rest) ≡ true
    first_step state x v rest h = subst (λ z. starts first z ≡ true) (sym (ap (λ z. z ++ rest) h.3 ∙ append_assoc h.0 h.1 rest)) (begins state h.0 h.2 (h.1 ++ rest) h.4)

    step_in : (state : S) (x : List T) (v : S) → P state x v → U state x v
    step_in state x v h = (reads state x).core.within x v h

    steps_in : (n : ℕ) (state : S) (x : List T) (v : S) → steps P n state x v → steps U n state x v
    steps_in zero state x v h = h
    steps_in (suc n) state x v h = (h.0, h.1, h.2, h.3, step_in state h.0 h.2 h.4, steps_in n h.2 h.1 v h.5)

    one_turn : (tokens : List T) → ((next : S) (r : List T) → length r < length tokens → Reads Real Why (iterated P next) (iterated U next) F (iterate first step next) r)
        → (state : S) → Reads Real Why (iterated P state) (iterated U state) F (iterate first step state) tokens
    one_turn tokens again state =
        restate (iterated P state) (iterated U state) (iterate first step state) (to_iterated P state) (from_iterated P state) (to_iterated U state) (from_iterated U state) (iterate_turn first step shrinks state)
        (choose_reads Real Why first (P state >>= λ next. iterated P next) (U state >>= λ next. iterated U next) (nothing state) (nothing state) F (λ ts. and_then (step state ts) (iterate first step)) (λ ts. Read state ts) tokens
        (λ x v h. (h.0, h.1, h.2, h.3, step_in state h.0 h.2 h.4, (h.5.0, steps_in h.5.0 h.2 h.1 v h.5.1)))
        (λ x v h. h)
        (λ is. then_reads Real Why (P state) (U state) (λ next. iterated P next) (λ next. iterated U next) G F (step state) (iterate first step) tokens (reads state tokens)
        (λ next r was. again next r (shrinks state tokens next r is was))
        (λ next x last h. (h.0, steps_in h.0 next x last h.1))
        (λ next x y last rest _ h f. between y next last rest h f)
        (λ next x _. ([], next, (0, (refl, refl)), tt))
        (λ next x _. ([], next, (0, (refl, refl)), tt)))
        (λ _. weaken F (λ _ _. tt) (give_reads state tokens))
        (first_step state) (others state))

    all_turns : (n : ℕ) (state : S) (tokens : List T) → length tokens < n → Reads Real Why (iterated P state) (iterated U state) F (iterate first step state) tokens
    all_turns zero state tokens less = absurd (omega arith)
    all_turns (suc n) state tokens less = one_turn tokens (λ next r shorter. all_turns n next r (omega arith)) state

    pub iterate_reads : (state : S) (tokens : List T) → Reads Real Why (iterated P state) (iterated U state) F (iterate first step state) tokens
    iterate_reads state tokens = all_turns (suc (length tokens)) state tokens (omega arith)
