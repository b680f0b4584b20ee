-- Parts behind a part of which more is known, and parts whose size is part of their value.
use Rattle.std.proofs.Common.{◌≡◌, ◌-◌, ℕ, Bool, List, ◌∷◌, ◌++◌, length, length-append, refl, sym, ap, subst, ◌∙◌, inl, inr, arith}
use Rattle.std.specs.Prelude.{◌⊎◌}
use Rattle.grammar.specs.Fault.{Every}
use Rattle.grammar.specs.Grammar as grammar
use Rattle.grammar.specs.Reading.{Outcome, Read, Stuck, Past, and_then}
use Rattle.grammar.proofs.Laws.{IsPast, every_append}
use Rattle.bibtex_laws.specs.Past.{IsPastAt}
use Rattle.bibtex_laws.proofs.Laws.{End, Value, Unexpected, answer, then_reads}
use Rattle.bibtex_laws.proofs.Parts.{Part, part_within}
use Rattle.bibtex_laws.specs.Grammar.{sized}

module _ {T A B : Type 0} {Real : T → Type 0} {Why : List T → (T → Bool) → Type 0} {P U : List T → A → Type 0} {Q V : A → List T → B → Type 0} {G F : List T → Type 0} {p : List T → Outcome T A} {q : A → List T → Outcome T B} where
  -- a part behind another whose value has K
  pub then_known : (K : A → Type 0) → ((x : List T) (v : A) → U x v → K v) → Part Real Why P U G p → ((v : A) → K v → Part Real Why (Q v) (V v) F (q v)) → ((v : A) (x : List T) (w : B) → Q v x w → V v x w)
      → ((v : A) → K v → (y : List T) (w : B) (rest : List T) → V v y w → F rest → G (y ++ rest)) → Part Real Why (grammar.◌>>=◌ P Q) (grammar.◌>>=◌ U V) F (λ ts. and_then (p ts) q)
  then_known K known a b all follows = record {
    reads = λ tokens. then_reads Real Why P U Q V G F p q tokens (a.reads tokens)
        (λ v r was. let s = (a.reads tokens).core.sound v r was in (b v (known s.0 v (part_within a s.0 v s.2))).reads r) all
        (λ v x y w rest h k f. follows v (known x v h) y w rest k f)
        (λ v x h. (b v (known x v (part_within a x v h))).phrase)
        (λ v x h. let c = (b v (known x v h)).phrase in (c.0, c.1, all v c.0 c.1 c.2, c.3));
    phrase =
        let one = a.phrase in
        let two = (b one.1 (known one.0 one.1 (part_within a one.0 one.1 one.2))).phrase in
        (one.0 ++ two.0, two.1, (one.0, two.0, one.1, refl, one.2, two.2), every_append Real one.0 two.0 one.3 two.3);
  }

module _ {A : Type 0} {Real : ℕ → Type 0} {Why : List ℕ → (ℕ → Bool) → Type 0} {P U : List ℕ → A → Type 0} {F : List ℕ → Type 0} {p : List ℕ → Outcome ℕ A} (part : Part Real Why P U F p) where
  abbrev pub read_sized : List ℕ → Outcome ℕ (A × ℕ)
  read_sized ts = and_then {B = A × ℕ} (p ts) (λ v rest. Read (v, length ts - length rest) rest)

  size_is : (tokens front rest : List ℕ) → tokens ≡ front ++ rest → length tokens - length rest ≡ length front
  size_is tokens front rest e = omega (arith, ap length e, length-append front rest)

  sound : (tokens : List ℕ) (o : Outcome ℕ A) → p tokens ≡ o → (v : A × ℕ) (rest : List ℕ) → and_then {B = A × ℕ} o (λ v rest. Read (v, length tokens - length rest) rest) ≡ Read v rest → (front : List ℕ) × (tokens ≡ front ++ rest) × sized P front v
  sound tokens (Stuck r) is v rest e = absurd cc
  sound tokens (Past r) is v rest e = absurd cc
  sound tokens (Read w r) is v rest e =
      let left : r ≡ rest = cc in
      let pair : (w, length tokens - length r) ≡ v = cc in
      let a = (part.reads tokens).core.sound w r is in
      let there : tokens ≡ a.0 ++ rest = a.1 ∙ ap (λ x. a.0 ++ x) left in
      (a.0, there, subst (λ z. sized P a.0 z) pair (a.2, size_is tokens a.0 r a.1))

  complete : (tokens front : List ℕ) (v : A × ℕ) (rest : List ℕ) → tokens ≡ front ++ rest → sized P front v → F rest → read_sized tokens ≡ Read v rest
  complete tokens front v rest e h f =
      let a = (part.reads tokens).core.complete front v.0 rest e h.0 f in
      let same : length tokens - length rest ≡ v.1 = size_is tokens front rest e ∙ sym h.1 in
      rw (a, same) refl

  accepts : (tokens front : List ℕ) (v : A × ℕ) (rest : List ℕ) → tokens ≡ front ++ rest → sized U front v → F rest → (read_sized tokens ≡ Read v rest) ⊎ IsPast (read_sized tokens)
  accepts tokens front v rest e h f = by ((part.reads tokens).core.accepts front v.0 rest e h.0 f)
    where
      by : (p tokens ≡ Read v.0 rest) ⊎ IsPast (p tokens) → (read_sized tokens ≡ Read v rest) ⊎ IsPast (read_sized tokens)
      by (inr a) = inr (a.0, rw a.1 refl)
      by (inl a) =
          let same : length tokens - length rest ≡ v.1 = size_is tokens front rest e ∙ sym h.1 in
          inl (rw (a, same) refl)

  local : (tokens : List ℕ) (u : Outcome ℕ A) → p tokens ≡ u → (front : List ℕ) (t : ℕ) (r s : List ℕ) (o : End (A × ℕ)) → tokens ≡ front ++ (t ∷ r) → and_then {B = A × ℕ} u (λ v rest. Read (v, length tokens - length rest) rest) ≡ answer o (t ∷ r) → read_sized (front ++ (t ∷ s)) ≡ answer o (t ∷ s)
  local tokens (Stuck r0) is front t r s (Value v) e h = absurd cc
  local tokens (Stuck r0) is front t r s Unexpected e h =
      let left : r0 ≡ t ∷ r = cc in
      rw ((part.reads tokens).core.local front t r s Unexpected e (is ∙ ap Stuck left)) refl
  local tokens (Past r0) is front t r s (Value v) e h = absurd cc
  local tokens (Past r0) is front t r s Unexpected e h = absurd cc
  local tokens (Read w r0) is front t r s Unexpected e h = absurd cc
  local tokens (Read w r0) is front t r s (Value v) e h =
      let left : r0 ≡ t ∷ r = cc in
      let pair : (w, length tokens - length r0) ≡ v = cc in
      let size : length tokens - length r0 ≡ length (front ++ (t ∷ s)) - length (t ∷ s) =
      ap (λ x. length tokens - length x) left ∙ size_is tokens front (t ∷ r) e ∙ sym (size_is (front ++ (t ∷ s)) front (t ∷ s) refl) in
      let again : p (front ++ (t ∷ s)) ≡ Read w (t ∷ s) = (part.reads tokens).core.local front t r s (Value w) e (is ∙ ap (Read w) left) in
      let read : read_sized (front ++ (t ∷ s)) ≡ Read (w, length (front ++ (t ∷ s)) - length (t ∷ s)) (t ∷ s) = rw again refl in
      read ∙ ap (λ n. Read (w, n) (t ∷ s)) (sym size) ∙ ap (λ z. Read z (t ∷ s)) pair

  viable : (tokens : List ℕ) (o : Outcome ℕ A) → p tokens ≡ o → (rest : List ℕ) → and_then {B = A × ℕ} o (λ v rest. Read (v, length tokens - length rest) rest) ≡ Stuck rest → (front : List ℕ) × (more : List ℕ) × (value : A × ℕ) × (tokens ≡ front ++ rest) × sized P (front ++ more) value × Every Real more
  viable tokens (Read w r) is rest e = absurd cc
  viable tokens (Past r) is rest e = absurd cc
  viable tokens (Stuck r) is rest e =
      let left : r ≡ rest = cc in
      let a = (part.reads tokens).viable rest (is ∙ ap Stuck left) in
      (a.0, a.1, (a.2, length (a.0 ++ a.1)), a.3, (a.4, refl), a.5)

  past : (tokens : List ℕ) (o : Outcome ℕ A) → p tokens ≡ o → (rest : List ℕ) → and_then {B = A × ℕ} o (λ v rest. Read (v, length tokens - length rest) rest) ≡ Past rest → IsPastAt Real Why (sized P) (sized U) read_sized tokens rest
  past tokens (Read w r) is rest e = absurd cc
  past tokens (Stuck r) is rest e = absurd cc
  past tokens (Past r) is rest e =
      let left : r ≡ rest = cc in
      let a = (part.reads tokens).past rest (is ∙ ap Past left) in
      record {
        front = a.front;
        more = a.more;
        value = (a.value, length (a.front ++ a.more));
        parts = a.parts;
        fits = (a.fits, refl);
        goes_on = a.goes_on;
        head = a.head;
        tail = a.tail;
        later = a.later;
        stops = a.stops;
        is = a.is;
        ends = a.ends;
        next = a.next;
        others = a.others;
        found = (a.found, length (a.front ++ (a.head ∷ (a.tail ++ (a.next ∷ a.others)))));
        spelled = (a.spelled, refl);
        parted = a.parted;
        real = a.real;
        why = a.why;
        again = λ s f. rw (a.again s f) refl;
      }

  pub sized_part : Part Real Why (sized P) (sized U) F read_sized
  sized_part = record {
    reads = λ tokens. record {
      core = record {
        sound = sound tokens (p tokens) refl;
        complete = complete tokens;
        accepts = accepts tokens;
        local = local tokens (p tokens) refl;
        within = λ x v h. (part_within part x v.0 h.0, h.1);
      };
      viable = viable tokens (p tokens) refl;
      past = past tokens (p tokens) refl;
    };
    phrase = let a = part.phrase in (a.0, (a.1, length a.0), (a.2, refl), a.3);
  }
