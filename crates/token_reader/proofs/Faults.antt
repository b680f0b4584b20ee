-- Tokens leave a grammar, or pass its limits, at one place, and only where they spell nothing within the limits.
use Rattle.std.proofs.Common.{◌≡◌, List, [], ◌∷◌, ◌++◌, refl, sym, ap, subst, ◌∙◌, append_assoc}
use Rattle.std.proofs.lemmas.List.{append-nil}
use Rattle.grammar.specs.Fault.{Every, IsFront, FirstFault, FirstPast}
use Rattle.grammar.proofs.Laws.{every_append}

-- One front goes on with the first token of the other's rest, or they are the same.
data Fronts (T : Type 0) (front rest front2 rest2 : List T) : Type 0 where
  same : front ≡ front2 → rest ≡ rest2 → Fronts T front rest front2 rest2
  shorter : (t : T) (mid : List T) → front2 ≡ front ++ t ∷ mid → rest ≡ t ∷ (mid ++ rest2) → Fronts T front rest front2 rest2
  longer : (t : T) (mid : List T) → front ≡ front2 ++ t ∷ mid → rest2 ≡ t ∷ (mid ++ rest) → Fronts T front rest front2 rest2

behind : {T : Type 0} (t u : T) (front rest front2 rest2 : List T) → t ≡ u → Fronts T front rest front2 rest2 → Fronts T (t ∷ front) rest (u ∷ front2) rest2
behind t u front rest front2 rest2 is (same e f) = same (ap (λ x. t ∷ x) e ∙ ap (λ x. x ∷ front2) is) f
behind t u front rest front2 rest2 is (shorter v mid e f) = shorter v mid (ap (λ x. u ∷ x) e ∙ ap (λ x. x ∷ (front ++ v ∷ mid)) (sym is)) f
behind t u front rest front2 rest2 is (longer v mid e f) = longer v mid (ap (λ x. t ∷ x) e ∙ ap (λ x. x ∷ (front2 ++ v ∷ mid)) is) f

fronts : {T : Type 0} (front rest front2 rest2 : List T) → front ++ rest ≡ front2 ++ rest2 → Fronts T front rest front2 rest2
fronts [] rest [] rest2 e = same refl e
fronts [] rest (u ∷ front2) rest2 e = shorter u front2 refl e
fronts (t ∷ front) rest [] rest2 e = longer t front refl (sym e)
fronts (t ∷ front) rest (u ∷ front2) rest2 e =
    let first : t ≡ u = cc in
    let later : front ++ rest ≡ front2 ++ rest2 = cc in
    behind t u front rest front2 rest2 first (fronts front rest front2 rest2 later)

pub every_back : {T : Type 0} (Real : T → Type 0) (xs ys : List T) → Every Real (xs ++ ys) → Every Real ys
every_back Real [] ys h = h
every_back Real (x ∷ xs) ys h = every_back Real xs ys h.1

pub every_front : {T : Type 0} (Real : T → Type 0) (xs ys : List T) → Every Real (xs ++ ys) → Every Real xs
every_front Real [] ys h = tt
every_front Real (x ∷ xs) ys h = (h.0, every_front Real xs ys h.1)

-- `Front` says that what begins so is made of tokens that a text can have.
module _ {T A : Type 0} (Real : T → Type 0) (P U : List T → A → Type 0) (within : (x : List T) (v : A) → P x v → U x v) (tokens : List T)
    (real : (front rest more : List T) (v : A) → tokens ≡ front ++ rest → P (front ++ more) v → Every Real front) where
  -- where the tokens stop being a front of what is spelled within the limits
  record Stop (front rest : List T) : Type 0 where
    parts : tokens ≡ front ++ rest
    fits : IsFront Real P front
    stops : (t : T) (later : List T) → rest ≡ t ∷ later → IsFront Real P (front ++ t ∷ []) → ⊥

  of_fault : (rest : List T) (f : FirstFault Real P U tokens rest) → Stop f.front rest
  of_fault rest f = record {
    parts = f.parts;
    fits = f.fits;
    stops = λ t later e h. f.breaks t later e (h.0, h.1, within ((f.front ++ t ∷ []) ++ h.0) h.1 h.2, h.3);
  }

  of_past : (rest : List T) (f : FirstPast Real P U tokens rest) → Stop f.front rest
  of_past rest f = record {
    parts = f.parts;
    fits = f.fits;
    stops = λ t later e h. let first : t ≡ f.token = (let both : t ∷ later ≡ f.token ∷ f.later = sym e ∙ f.is in cc) in f.past (subst (λ x. IsFront Real P (f.front ++ x ∷ [])) first h);
  }

  -- a front that goes on past a stop
  no_longer : (front rest front2 rest2 : List T) (t : T) (mid : List T) → Stop front rest → Stop front2 rest2 → front2 ≡ front ++ t ∷ mid → rest ≡ t ∷ (mid ++ rest2) → ⊥
  no_longer front rest front2 rest2 t mid s s2 e f =
      let h = s2.fits in
      let whole : front2 ++ h.0 ≡ (front ++ t ∷ []) ++ (mid ++ h.0) =
      ap (λ x. x ++ h.0) e ∙ append_assoc front (t ∷ mid) h.0 ∙ sym (append_assoc front (t ∷ []) (mid ++ h.0)) in
      let all : Every Real (front ++ t ∷ mid) = subst (Every Real) e (real front2 rest2 h.0 h.1 s2.parts h.2) in
      let middle : Every Real mid = (every_back Real front (t ∷ mid) all).1 in
      s.stops t (mid ++ rest2) f (mid ++ h.0, h.1, subst (λ x. P x h.1) whole h.2, every_append Real mid h.0 middle h.3)

  one_stop : (front rest front2 rest2 : List T) → Stop front rest → Stop front2 rest2 → Fronts T front rest front2 rest2 → (front ≡ front2) × (rest ≡ rest2)
  one_stop front rest front2 rest2 s s2 (same e f) = (e, f)
  one_stop front rest front2 rest2 s s2 (shorter t mid e f) = absurd (no_longer front rest front2 rest2 t mid s s2 e f)
  one_stop front rest front2 rest2 s s2 (longer t mid e f) = absurd (no_longer front2 rest2 front rest t mid s2 s e f)

  stop_once : (front rest front2 rest2 : List T) → Stop front rest → Stop front2 rest2 → (front ≡ front2) × (rest ≡ rest2)
  stop_once front rest front2 rest2 s s2 = one_stop front rest front2 rest2 s s2 (fronts front rest front2 rest2 (sym s.parts ∙ s2.parts))

  pub one_fault : (rest rest2 : List T) → FirstFault Real P U tokens rest → FirstFault Real P U tokens rest2 → rest ≡ rest2
  one_fault rest rest2 f g = (stop_once f.front rest g.front rest2 (of_fault rest f) (of_fault rest2 g)).1

  pub one_past : (rest rest2 : List T) → FirstPast Real P U tokens rest → FirstPast Real P U tokens rest2 → rest ≡ rest2
  one_past rest rest2 f g = (stop_once f.front rest g.front rest2 (of_past rest f) (of_past rest2 g)).1

  pub fault_or_past : (rest rest2 : List T) → FirstFault Real P U tokens rest → FirstPast Real P U tokens rest2 → ⊥
  fault_or_past rest rest2 f g =
      let e = stop_once f.front rest g.front rest2 (of_fault rest f) (of_past rest2 g) in
      f.breaks g.token g.later (e.1 ∙ g.is) (subst (λ x. IsFront Real U (x ++ g.token ∷ [])) (sym e.0) g.spelled)

  -- what is spelled within the limits goes on behind each front
  goes_on : (front : List T) (t : T) (later : List T) (v : A) → tokens ≡ front ++ t ∷ later → P tokens v → IsFront Real P (front ++ t ∷ [])
  goes_on front t later v parts h =
      let whole : tokens ≡ (front ++ t ∷ []) ++ later = parts ∙ sym (append_assoc front (t ∷ []) later) in
      let all : Every Real tokens = real tokens [] [] v (sym (append-nil tokens)) (subst (λ x. P x v) (sym (append-nil tokens)) h) in
      (later, v, subst (λ x. P x v) whole h, every_back Real (front ++ t ∷ []) later (subst (Every Real) whole all))

  pub spelled_no_fault : (v : A) (rest : List T) → P tokens v → FirstFault Real P U tokens rest → ⊥
  spelled_no_fault v [] h f = f.ends refl (v, within tokens v h)
  spelled_no_fault v (t ∷ later) h f = let on = goes_on f.front t later v f.parts h in f.breaks t later refl (on.0, on.1, within ((f.front ++ t ∷ []) ++ on.0) on.1 on.2, on.3)

  pub spelled_no_past : (v : A) (rest : List T) → P tokens v → FirstPast Real P U tokens rest → ⊥
  spelled_no_past v rest h f = f.past (goes_on f.front f.token f.later v (f.parts ∙ ap (λ x. f.front ++ x) f.is) h)
