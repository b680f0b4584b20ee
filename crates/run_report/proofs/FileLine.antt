-- Texts that are put one after another.
use Rattle.std.proofs.Common.{◌≡◌, ◌⊎◌, ◌∙◌, ◌≤◌, ◌+◌, ℕ, List, [], ◌∷◌, ◌++◌, length, take, inl, inr, ⊎_elim, Bool, true, false, refl, sym, ap, subst, append_assoc, arith}
use Rattle.std.specs.Prelude.{Option, Some, Result, Ok, Err, MatchResult, OnOk}
use Rattle.std.specs.Result.{is_err, is_ok}
use Rattle.std.proofs.lemmas.Bool.{cases_lt}
use Rattle.std.proofs.lemmas.List.{append-nil, take_all, take-append-le}
use Rattle.std.proofs.Math.Seq.{take-append_seam, take-append-add}
use Rattle.edge_io.specs.Counts.{Rose, HasCause}
use Rattle.edge_io.specs.Sink.{Gains, GainsPart}
use Rattle.happenings.specs.Happening.{Happening, Put, PutFailed}
use Rattle.happenings.specs.declared.stream.Stream.{Stream}
use Rattle.run_report.specs.Told.{ArePut}

-- a prefix of the first of two lists is one of both
front : (n : ℕ) (xs ys : List ℕ) → (m : ℕ) × (take m (xs ++ ys) ≡ take n xs)
front n xs ys =
    ⊎_elim (λ less. (n, take-append-le n xs ys (omega (arith, less)))) (λ more. (length xs, take-append_seam xs ys ∙ sym (take_all n xs more)))
    (cases_lt n (length xs))

module _ (a b c : Option (List ℕ)) (xs ys : List ℕ) where
  part_front : GainsPart a b xs → GainsPart a b (xs ++ ys)
  part_front h = let m = front h.0 xs ys in (m.0, subst (Gains a b) (sym m.1) h.1)

  gains_then : Gains a b xs → Gains b c ys → Gains a c (xs ++ ys)
  gains_then g h = λ before e. h (before ++ xs) (g before e) ∙ ap (λ z. Some z) (append_assoc before xs ys)

  part_then : Gains a b xs → GainsPart b c ys → GainsPart a c (xs ++ ys)
  part_then g h = (
    length xs + h.0,
    λ before e. h.1 (before ++ xs) (g before e) ∙ ap (λ z. Some z) (append_assoc before xs (take h.0 ys)) ∙ ap (λ z. Some (before ++ z)) (sym (take-append-add xs ys h.0)),
  )

not_first : (f g h : ℕ) → g ≤ h → (Rose f h → ⊥) → Rose f g → ⊥
not_first f g h up none rose = none (omega (arith, rose, up))

not_then : (f g h : ℕ) → f ≤ g → (Rose f h → ⊥) → Rose g h → ⊥
not_then f g h up none rose = none (omega (arith, rose, up))

-- what an output has, how often it has failed, and what it notes, before and after texts that together are this one
pub record Putting (stream : Stream) (texts : List (List ℕ)) (text : List ℕ) (a b : Option (List ℕ)) (f g : ℕ) (p q : List Happening) : Type 0 where
  pub whole : (Rose f g → ⊥) → Gains a b text
  pub part : GainsPart a b text
  pub later : f ≤ g
  pub traced : (h : List Happening) × (q ≡ p ++ h) × ArePut stream texts h

pub not_err : {T E : Type 0} (result : Result T E) (b : Bool) → b ≡ is_ok result → b ≡ true → is_err result ≡ false
not_err (Ok x) b is holds = refl
not_err (Err e) b is holds = let both = sym is ∙ holds in absurd cc

pub an_err : {T E : Type 0} (result : Result T E) (b : Bool) → b ≡ is_ok result → b ≡ false → is_err result ≡ true
an_err (Ok x) b is fails = let both = sym is ∙ fails in absurd cc
an_err (Err e) b is fails = refl

module _ (stream : Stream) where
  pub none : (a : Option (List ℕ)) (f : ℕ) (p : List Happening) → Putting stream [] [] a a f f p p
  none a f p =
      let same : Gains a a [] = λ before e. e ∙ ap (λ z. Some z) (sym (append-nil before)) in
      record { whole = λ unfailed. same; part = (0, same); later = omega arith; traced = ([], sym (append-nil p), refl) }

  -- a put that failed is the last
  pub cut : {T E : Type 0} (t : List ℕ) (texts : List (List ℕ)) (rest : List ℕ) (a b : Option (List ℕ)) (f g : ℕ) (p q : List Happening) (result : Result T E)
      → is_err result ≡ true → MatchResult result (λ _. q ≡ p ++ Put stream t ∷ []) (λ _. (taken : ℕ) × (q ≡ p ++ PutFailed stream t taken ∷ []) × Gains a b (take taken t))
      → GainsPart a b t → HasCause f g result → Putting stream (t ∷ texts) (t ++ rest) a b f g p q
  cut t texts rest a b f g p q (Ok x) failed traced part cause = absurd cc
  cut t texts rest a b f g p q (Err e) failed traced part cause = record {
    whole = λ unfailed. absurd (unfailed cause.failed);
    part = part_front a b b t rest part;
    later = cause.later;
    traced = (PutFailed stream t traced.0 ∷ [], traced.1, inr (traced.0, refl));
  }

  -- after a put that did not fail come the others
  pub then : {T E : Type 0} (t : List ℕ) (texts : List (List ℕ)) (rest : List ℕ) (a b c : Option (List ℕ)) (f g h : ℕ) (p q r : List Happening) (result : Result T E)
      → is_err result ≡ false → MatchResult result (λ _. q ≡ p ++ Put stream t ∷ []) (λ _. (taken : ℕ) × (q ≡ p ++ PutFailed stream t taken ∷ []) × Gains a b (take taken t))
      → OnOk result (Gains a b t) → HasCause f g result → Putting stream texts rest b c g h q r → Putting stream (t ∷ texts) (t ++ rest) a c f h p r
  then t texts rest a b c f g h p q r (Err e) stands traced whole cause others = absurd cc
  then t texts rest a b c f g h p q r (Ok x) stands traced whole cause others = record {
    whole = λ unfailed. gains_then a b c t rest whole (others.whole (not_then f g h cause.later unfailed));
    part = part_then a b c t rest whole others.part;
    later = omega (arith, cause.later, others.later);
    traced = (Put stream t ∷ others.traced.0, others.traced.1 ∙ ap (λ z. z ++ others.traced.0) traced ∙ append_assoc p (Put stream t ∷ []) others.traced.0, inl (others.traced.0, refl, others.traced.2));
  }

  -- the last one, whether it failed or not
  pub last : {T E : Type 0} (t : List ℕ) (a b : Option (List ℕ)) (f g : ℕ) (p q : List Happening) (result : Result T E)
      → MatchResult result (λ _. q ≡ p ++ Put stream t ∷ []) (λ _. (taken : ℕ) × (q ≡ p ++ PutFailed stream t taken ∷ []) × Gains a b (take taken t))
      → OnOk result (Gains a b t) → GainsPart a b t → HasCause f g result → Putting stream (t ∷ []) (t ++ []) a b f g p q
  last t a b f g p q (Ok x) traced whole part cause = then t [] [] a b b f g g p q q (Ok x) refl traced whole cause (none b g q)
  last t a b f g p q (Err e) traced whole part cause = cut t [] [] a b f g p q (Err e) refl traced part cause
