-- What makes a reader the reader of a grammar whose limits may be passed by a word, and that the ways to put readers
-- together keep it. In crate grammar a limit is passed by one token.
use Rattle.std.proofs.Common.{◌≡◌, Bool, true, false, cond, List, [], ◌∷◌, ◌++◌, Option, Some, None, refl, sym, ap, ◌∙◌, append_assoc, inl, inr}
use Rattle.std.proofs.lemmas.List.{append_cancel_right}
use Rattle.std.specs.Prelude.{◌⊎◌}
use Rattle.grammar.specs.Fault.{Every}
use Rattle.grammar.specs.Grammar.{nothing, one, ◌>>=◌, either}
use Rattle.grammar.specs.Reading.{Outcome, Read, Stuck, Past, and_then, give, taken, take_one, starts, choose}
use Rattle.grammar.proofs.Laws.{Always, IsPast, every_append}
use Rattle.bibtex_laws.specs.Past.{IsPastAt}

-- how a reader ends where it passes no limit
pub data End (A : Type 0) : Type 0 where
  Value : A → End A
  Unexpected : End A

abbrev pub answer : {T A : Type 0} → End A → List T → Outcome T A
answer (Value value) rest = Read value rest
answer Unexpected rest = Stuck rest

-- `P` are the phrases within the limits, `U` all phrases. At these tokens the reader finds the phrase, if what stands
-- behind it is one of `Follow`. Where it passes no limit, its answer rests on no token behind the first that it left.
pub record Core {T A : Type 0} (P U : List T → A → Type 0) (Follow : List T → Type 0) (read : List T → Outcome T A) (tokens : List T) : Type 0 where
  pub sound : (value : A) (rest : List T) → read tokens ≡ Read value rest → (front : List T) × (tokens ≡ front ++ rest) × P front value
  pub complete : (front : List T) (value : A) (rest : List T) → tokens ≡ front ++ rest → P front value → Follow rest → read tokens ≡ Read value rest
  pub accepts : (front : List T) (value : A) (rest : List T) → tokens ≡ front ++ rest → U front value → Follow rest → (read tokens ≡ Read value rest) ⊎ IsPast (read tokens)
  pub local : (front : List T) (t : T) (r s : List T) (o : End A) → tokens ≡ front ++ (t ∷ r) → read tokens ≡ answer o (t ∷ r) → read (front ++ (t ∷ s)) ≡ answer o (t ∷ s)
  pub within : (x : List T) (v : A) → P x v → U x v

-- Where it is stuck, what it passed is the front of a phrase of `W`.
abbrev pub IsViable : {T A : Type 0} → (T → Type 0) → (List T → A → Type 0) → (List T → Outcome T A) → List T → Type 0
IsViable {T} {A} Real W read tokens = (rest : List T) → read tokens ≡ Stuck rest → (front : List T) × (more : List T) × (value : A) × (tokens ≡ front ++ rest) × W (front ++ more) value × Every Real more

-- Where it passes a limit, a word there passes it.
abbrev pub IsPassed : {T A : Type 0} → (T → Type 0) → (List T → (T → Bool) → Type 0) → (W U : List T → A → Type 0) → (List T → Outcome T A) → List T → Type 0
IsPassed {T} Real Why W U read tokens = (rest : List T) → read tokens ≡ Past rest → IsPastAt Real Why W U read tokens rest

pub record Reads {T A : Type 0} (Real : T → Type 0) (Why : List T → (T → Bool) → Type 0) (P U : List T → A → Type 0) (Follow : List T → Type 0) (read : List T → Outcome T A) (tokens : List T) : Type 0 where
  pub core : Core P U Follow read tokens
  pub viable : IsViable Real P read tokens
  pub past : IsPassed Real Why P U read tokens

-- nothing is read

give-complete : {T A : Type 0} (v : A) (tokens front : List T) (w : A) (rest : List T) → tokens ≡ front ++ rest → nothing v front w → give v tokens ≡ Read w rest
give-complete v tokens front w rest e h = ap (λ x. Read x tokens) (sym h.1) ∙ ap (Read w) (e ∙ ap (λ x. x ++ rest) h.0)

-- nothing stands before what is all of it
pub no_front : {T : Type 0} (front rest whole : List T) → whole ≡ front ++ rest → whole ≡ rest → front ≡ []
no_front front rest whole e h = append_cancel_right front [] rest (sym e ∙ h)

give-local : {T A : Type 0} (v : A) (tokens front : List T) (t : T) (r s : List T) (o : End A) → tokens ≡ front ++ (t ∷ r) → give v tokens ≡ answer o (t ∷ r) → give v (front ++ (t ∷ s)) ≡ answer o (t ∷ s)
give-local v tokens front t r s (Value w) e h =
    let same : tokens ≡ t ∷ r = cc in
    let value : v ≡ w = cc in
    rw (no_front front (t ∷ r) tokens e same, value) refl
give-local v tokens front t r s Unexpected e h = absurd cc

pub give_reads : {T A : Type 0} {Real : T → Type 0} {Why : List T → (T → Bool) → Type 0} (v : A) (tokens : List T) → Reads Real Why (nothing v) (nothing v) Always (give v) tokens
give_reads v tokens = record {
  core = record {
    sound = λ w rest e. ([], cc, (refl, cc));
    complete = λ front w rest e h _. give-complete v tokens front w rest e h;
    accepts = λ front w rest e h _. inl (give-complete v tokens front w rest e h);
    local = give-local v tokens;
    within = λ x v h. h;
  };
  viable = λ rest e. absurd cc;
  past = λ rest e. absurd cc;
}

-- one token

module _ {T A : Type 0} (value : T → Option A) where
  taken-sound : (t : T) (tokens : List T) (o : Option A) → value t ≡ o → (w : A) (rest : List T) → taken true t tokens o ≡ Read w rest → (front : List T) × (t ∷ tokens ≡ front ++ rest) × one value front w
  taken-sound t tokens (Some v) is w rest e = (t ∷ [], cc, (t, refl, cc))
  taken-sound t tokens None is w rest e = absurd cc

  take-sound : (tokens : List T) (w : A) (rest : List T) → take_one true value tokens ≡ Read w rest → (front : List T) × (tokens ≡ front ++ rest) × one value front w
  take-sound [] w rest e = absurd cc
  take-sound (t ∷ tokens) w rest e = taken-sound t tokens (value t) refl w rest e

  take-complete : (tokens front : List T) (w : A) (rest : List T) → tokens ≡ front ++ rest → one value front w → take_one true value tokens ≡ Read w rest
  take-complete [] front w rest e h =
      let has : front ++ rest ≡ h.0 ∷ rest = rw h.1 refl in
      absurd cc
  take-complete (t ∷ tokens) front w rest e h =
      let has : front ++ rest ≡ h.0 ∷ rest = rw h.1 refl in
      let same : t ≡ h.0 = cc in
      let later : tokens ≡ rest = cc in
      rw (same, h.2, later) refl

  module _ (Real : T → Type 0) (some : T) (found : A) (known : value some ≡ Some found) (real : Real some) where
    taken-viable : (t : T) (tokens : List T) (o : Option A) (rest : List T) → taken true t tokens o ≡ Stuck rest → (front : List T) × (more : List T) × (w : A) × (t ∷ tokens ≡ front ++ rest) × one value (front ++ more) w × Every Real more
    taken-viable t tokens (Some v) rest e = absurd cc
    taken-viable t tokens None rest e = ([], some ∷ [], found, cc, (some, refl, known), (real, tt))

    take-viable : (tokens rest : List T) → take_one true value tokens ≡ Stuck rest → (front : List T) × (more : List T) × (w : A) × (tokens ≡ front ++ rest) × one value (front ++ more) w × Every Real more
    take-viable [] rest e = ([], some ∷ [], found, cc, (some, refl, known), (real, tt))
    take-viable (t ∷ tokens) rest e = taken-viable t tokens (value t) rest e

  taken-not_past : (t : T) (tokens : List T) (o : Option A) (rest : List T) → taken true t tokens o ≡ Past rest → ⊥
  taken-not_past t tokens (Some v) rest e = cc
  taken-not_past t tokens None rest e = cc

  take-not_past : (tokens rest : List T) → take_one true value tokens ≡ Past rest → ⊥
  take-not_past [] rest e = cc
  take-not_past (t ∷ tokens) rest e = taken-not_past t tokens (value t) rest e

  taken-front : (x : T) (tokens : List T) (o : Option A) (front : List T) (t : T) (r s : List T) (p : End A) → value x ≡ o → x ∷ tokens ≡ front ++ (t ∷ r) → taken true x tokens o ≡ answer p (t ∷ r) → take_one true value (front ++ (t ∷ s)) ≡ answer p (t ∷ s)
  taken-front x tokens (Some v) front t r s Unexpected is e h = absurd cc
  taken-front x tokens None front t r s (Value w) is e h = absurd cc
  taken-front x tokens None front t r s Unexpected is e h =
      let same : x ∷ tokens ≡ t ∷ r = cc in
      let first : value t ≡ None = cc in
      rw (no_front front (t ∷ r) (x ∷ tokens) e same, first) refl
  taken-front x tokens (Some v) front t r s (Value w) is e h =
      let same : tokens ≡ t ∷ r = cc in
      let single : front ≡ x ∷ [] = append_cancel_right front (x ∷ []) (t ∷ r) (sym e ∙ ap (λ l. x ∷ l) same) in
      let found : value x ≡ Some w = cc in
      rw (single, found) refl

  take-local : (tokens front : List T) (t : T) (r s : List T) (p : End A) → tokens ≡ front ++ (t ∷ r) → take_one true value tokens ≡ answer p (t ∷ r) → take_one true value (front ++ (t ∷ s)) ≡ answer p (t ∷ s)
  take-local [] front t r s (Value w) e h = absurd cc
  take-local [] front t r s Unexpected e h = absurd cc
  take-local (x ∷ tokens) front t r s p e h = taken-front x tokens (value x) front t r s p refl e h

-- some token has a value
pub one_reads : {T A : Type 0} {Real : T → Type 0} {Why : List T → (T → Bool) → Type 0} (value : T → Option A) (some : T) (found : A) → value some ≡ Some found → Real some → (tokens : List T) → Reads Real Why (one value) (one value) Always (take_one true value) tokens
one_reads {Real = Real} value some found known real tokens = record {
  core = record {
    sound = take-sound value tokens;
    complete = λ front w rest e h _. take-complete value tokens front w rest e h;
    accepts = λ front w rest e h _. inl (take-complete value tokens front w rest e h);
    local = take-local value tokens;
    within = λ x v h. h;
  };
  viable = take-viable value Real some found known real tokens;
  past = λ rest e. absurd (take-not_past value tokens rest e);
}

-- what is known of every reader

-- a value rests on no token behind the first that was left
pub extend : {T A : Type 0} {P U : List T → A → Type 0} {F : List T → Type 0} {read : List T → Outcome T A} {tokens : List T} → Core P U F read tokens → (v : A) (front middle : List T) (t : T) (r s : List T) → tokens ≡ front ++ (middle ++ (t ∷ r)) → read tokens ≡ Read v (middle ++ (t ∷ r)) → read (front ++ (middle ++ (t ∷ s))) ≡ Read v (middle ++ (t ∷ s))
extend reads v front [] t r s e h = reads.local front t r s (Value v) e h
extend reads v front (x ∷ middle) t r s e h = reads.local front x (middle ++ (t ∷ r)) (middle ++ (t ∷ s)) (Value v) e h

pub weaken_core : {T A : Type 0} {P U : List T → A → Type 0} {F : List T → Type 0} {read : List T → Outcome T A} {tokens : List T} (G : List T → Type 0) → ((rest : List T) → G rest → F rest) → Core P U F read tokens → Core P U G read tokens
weaken_core G implies reads = record {
  sound = reads.sound;
  complete = λ front v rest e h g. reads.complete front v rest e h (implies rest g);
  accepts = λ front v rest e h g. reads.accepts front v rest e h (implies rest g);
  local = reads.local;
  within = reads.within;
}

pub weaken : {T A : Type 0} {Real : T → Type 0} {Why : List T → (T → Bool) → Type 0} {P U : List T → A → Type 0} {F : List T → Type 0} {read : List T → Outcome T A} {tokens : List T} (G : List T → Type 0) → ((rest : List T) → G rest → F rest) → Reads Real Why P U F read tokens → Reads Real Why P U G read tokens
weaken G implies reads = record { core = weaken_core G implies reads.core; viable = reads.viable; past = reads.past }

either_way : {T A : Type 0} (o u : Outcome T A) (value : A) (rest : List T) → u ≡ o → (o ≡ Read value rest) ⊎ IsPast o → (u ≡ Read value rest) ⊎ IsPast u
either_way o u value rest e (inl h) = inl (e ∙ h)
either_way o u value rest e (inr h) = inr (h.0, e ∙ h.1)

-- the same grammars and the same reader, written otherwise
pub restate_core : {T A : Type 0} {P U : List T → A → Type 0} {F : List T → Type 0} {read : List T → Outcome T A} {tokens : List T} (P' U' : List T → A → Type 0) (read' : List T → Outcome T A)
    → ((x : List T) (v : A) → P x v → P' x v) → ((x : List T) (v : A) → P' x v → P x v) → ((x : List T) (v : A) → U x v → U' x v) → ((x : List T) (v : A) → U' x v → U x v) → ((ts : List T) → read' ts ≡ read ts) → Core P U F read tokens → Core P' U' F read' tokens
restate_core {read = read} {tokens} P' U' read' to from to_all from_all same reads = record {
  sound = λ v rest e. let s = reads.sound v rest (sym (same tokens) ∙ e) in (s.0, s.1, to s.0 v s.2);
  complete = λ front v rest e h f. same tokens ∙ reads.complete front v rest e (from front v h) f;
  accepts = λ front v rest e h f. either_way (read tokens) (read' tokens) v rest (same tokens) (reads.accepts front v rest e (from_all front v h) f);
  local = λ front t r s o e h. same (front ++ (t ∷ s)) ∙ reads.local front t r s o e (sym (same tokens) ∙ h);
  within = λ x v h. to_all x v (reads.within x v (from x v h));
}

-- the same where more is a phrase
pub restate_past : {T A : Type 0} {Real : T → Type 0} {Why : List T → (T → Bool) → Type 0} {W U : List T → A → Type 0} {read : List T → Outcome T A} {tokens rest : List T} (W' U' : List T → A → Type 0) (read' : List T → Outcome T A)
    → ((x : List T) (v : A) → W x v → W' x v) → ((x : List T) (v : A) → U x v → U' x v) → ((ts : List T) → read' ts ≡ read ts) → IsPastAt Real Why W U read tokens rest → IsPastAt Real Why W' U' read' tokens rest
restate_past W' U' read' to to_all same a = record {
  front = a.front;
  more = a.more;
  value = a.value;
  parts = a.parts;
  fits = to (a.front ++ a.more) a.value a.fits;
  goes_on = a.goes_on;
  head = a.head;
  tail = a.tail;
  later = a.later;
  stops = a.stops;
  is = a.is;
  ends = a.ends;
  next = a.next;
  others = a.others;
  found = a.found;
  spelled = to_all (a.front ++ (a.head ∷ (a.tail ++ (a.next ∷ a.others)))) a.found a.spelled;
  parted = a.parted;
  real = a.real;
  why = a.why;
  again = λ s f. same (a.front ++ (a.head ∷ (a.tail ++ s))) ∙ a.again s f;
}

pub restate : {T A : Type 0} {Real : T → Type 0} {Why : List T → (T → Bool) → Type 0} {P U : List T → A → Type 0} {F : List T → Type 0} {read : List T → Outcome T A} {tokens : List T} (P' U' : List T → A → Type 0) (read' : List T → Outcome T A)
    → ((x : List T) (v : A) → P x v → P' x v) → ((x : List T) (v : A) → P' x v → P x v) → ((x : List T) (v : A) → U x v → U' x v) → ((x : List T) (v : A) → U' x v → U x v) → ((ts : List T) → read' ts ≡ read ts) → Reads Real Why P U F read tokens → Reads Real Why P' U' F read' tokens
restate {tokens = tokens} P' U' read' to from to_all from_all same reads = record {
  core = restate_core P' U' read' to from to_all from_all same reads.core;
  viable = λ rest e. let s = reads.viable rest (sym (same tokens) ∙ e) in (s.0, s.1, s.2, s.3, to (s.0 ++ s.1) s.2 s.4, s.5);
  past = λ rest e. restate_past P' U' read' to to_all same (reads.past rest (sym (same tokens) ∙ e));
}

-- one phrase behind the other

module _ {T A B : Type 0} (Real : T → Type 0) (Why : List T → (T → Bool) → Type 0) (P U : List T → A → Type 0) (Q V : A → List T → B → Type 0) (G F : List T → Type 0) (p : List T → Outcome T A) (q : A → List T → Outcome T B) (tokens : List T)
    (first : Reads Real Why P U G p tokens) (second : (v : A) (r : List T) → p tokens ≡ Read v r → Reads Real Why (Q v) (V v) F (q v) r) where
  then-sound : (o : Outcome T A) → p tokens ≡ o → (w : B) (rest : List T) → and_then o q ≡ Read w rest → (front : List T) × (tokens ≡ front ++ rest) × (P >>= Q) front w
  then-sound (Stuck r) is w rest e = absurd cc
  then-sound (Past r) is w rest e = absurd cc
  then-sound (Read v r) is w rest e =
      let a = first.core.sound v r is in
      let b = (second v r is).core.sound w rest e in
      (a.0 ++ b.0, a.1 ∙ ap (λ x. a.0 ++ x) b.1 ∙ sym (append_assoc a.0 b.0 rest), (a.0, b.0, v, refl, a.2, b.2))

  module _ (all : (v : A) (x : List T) (w : B) → Q v x w → V v x w) (follows : (v : A) (x y : List T) (w : B) (rest : List T) → U x v → V v y w → F rest → G (y ++ rest)) where
    then-complete : (front : List T) (w : B) (rest : List T) → tokens ≡ front ++ rest → (P >>= Q) front w → F rest → and_then (p tokens) q ≡ Read w rest
    then-complete front w rest e h f =
        let parts : tokens ≡ h.0 ++ (h.1 ++ rest) = e ∙ ap (λ x. x ++ rest) h.3 ∙ append_assoc h.0 h.1 rest in
        let a : p tokens ≡ Read h.2 (h.1 ++ rest) = first.core.complete h.0 h.2 (h.1 ++ rest) parts h.4 (follows h.2 h.0 h.1 w rest (first.core.within h.0 h.2 h.4) (all h.2 h.1 w h.5) f) in
        rw a ((second h.2 (h.1 ++ rest) a).core.complete h.1 w rest refl h.5 f)

    then-accepted : (v : A) (y : List T) (w : B) (rest : List T) → V v y w → F rest → (p tokens ≡ Read v (y ++ rest)) ⊎ IsPast (p tokens) → (and_then (p tokens) q ≡ Read w rest) ⊎ IsPast (and_then (p tokens) q)
    then-accepted v y w rest h f (inr past) = inr (past.0, rw past.1 refl)
    then-accepted v y w rest h f (inl a) = either_way (q v (y ++ rest)) (and_then (p tokens) q) w rest (rw a refl) ((second v (y ++ rest) a).core.accepts y w rest refl h f)

    then-accepts : (front : List T) (w : B) (rest : List T) → tokens ≡ front ++ rest → (U >>= V) front w → F rest → (and_then (p tokens) q ≡ Read w rest) ⊎ IsPast (and_then (p tokens) q)
    then-accepts front w rest e h f =
        let parts : tokens ≡ h.0 ++ (h.1 ++ rest) = e ∙ ap (λ x. x ++ rest) h.3 ∙ append_assoc h.0 h.1 rest in
        then-accepted h.2 h.1 w rest h.5 f (first.core.accepts h.0 h.2 (h.1 ++ rest) parts h.4 (follows h.2 h.0 h.1 w rest h.4 h.5 f))

  module _ (ends : (v : A) (x : List T) → P x v → (y : List T) × (w : B) × Q v y w × Every Real y) where
    then-viable : (o : Outcome T A) → p tokens ≡ o → (rest : List T) → and_then o q ≡ Stuck rest → (front : List T) × (more : List T) × (w : B) × (tokens ≡ front ++ rest) × (P >>= Q) (front ++ more) w × Every Real more
    then-viable (Past r) is rest e = absurd cc
    then-viable (Read v r) is rest e =
        let a = first.core.sound v r is in
        let b = (second v r is).viable rest e in
        (a.0 ++ b.0, b.1, b.2, a.1 ∙ ap (λ x. a.0 ++ x) b.3 ∙ sym (append_assoc a.0 b.0 rest), (a.0, b.0 ++ b.1, v, append_assoc a.0 b.0 b.1, a.2, b.4), b.5)
    then-viable (Stuck r) is rest e =
        let left : r ≡ rest = cc in
        let a = first.viable rest (is ∙ ap Stuck left) in
        let c = ends a.2 (a.0 ++ a.1) a.4 in
        (a.0, a.1 ++ c.0, c.1, a.3, (a.0 ++ a.1, c.0, a.2, sym (append_assoc a.0 a.1 c.0), a.4, c.2), every_append Real a.1 c.0 a.5 c.3)

    then-past : ((v : A) (x : List T) → U x v → (y : List T) × (w : B) × V v y w × Every Real y) → (o : Outcome T A) → p tokens ≡ o → (rest : List T) → and_then o q ≡ Past rest
        → IsPastAt Real Why (P >>= Q) (U >>= V) (λ ts. and_then (p ts) q) tokens rest
    then-past ends_all (Stuck r) is rest e = absurd cc
    then-past ends_all (Read v r) is rest e =
        let a = first.core.sound v r is in
        let b = (second v r is).past rest e in
        let there : tokens ≡ a.0 ++ (b.front ++ rest) = a.1 ∙ ap (λ x. a.0 ++ x) b.parts in
        let known : p tokens ≡ Read v (b.front ++ (b.head ∷ (b.tail ++ b.later))) = is ∙ ap (Read v) (b.parts ∙ ap (λ x. b.front ++ x) b.is) in
        let whole : tokens ≡ a.0 ++ (b.front ++ (b.head ∷ (b.tail ++ b.later))) = there ∙ ap (λ x. a.0 ++ (b.front ++ x)) b.is in
        let read_first : (s : List T) → p (a.0 ++ (b.front ++ (b.head ∷ (b.tail ++ s)))) ≡ Read v (b.front ++ (b.head ∷ (b.tail ++ s))) =
        λ s. extend first.core v a.0 b.front b.head (b.tail ++ b.later) (b.tail ++ s) whole known in
        record {
          front = a.0 ++ b.front;
          more = b.more;
          value = b.value;
          parts = there ∙ sym (append_assoc a.0 b.front rest);
          fits = (a.0, b.front ++ b.more, v, append_assoc a.0 b.front b.more, a.2, b.fits);
          goes_on = b.goes_on;
          head = b.head;
          tail = b.tail;
          later = b.later;
          stops = b.stops;
          is = b.is;
          ends = b.ends;
          next = b.next;
          others = b.others;
          found = b.found;
          spelled = (a.0, b.front ++ (b.head ∷ (b.tail ++ (b.next ∷ b.others))), v, append_assoc a.0 b.front (b.head ∷ (b.tail ++ (b.next ∷ b.others))), first.core.within a.0 v a.2, b.spelled);
          parted = b.parted;
          real = b.real;
          why = b.why;
          again = λ s f. rw (append_assoc a.0 b.front (b.head ∷ (b.tail ++ s)), read_first s) (b.again s f);
        }
    then-past ends_all (Past r) is rest e =
        let left : r ≡ rest = cc in
        let a = first.past rest (is ∙ ap Past left) in
        let c = ends a.value (a.front ++ a.more) a.fits in
        let d = ends_all a.found (a.front ++ (a.head ∷ (a.tail ++ (a.next ∷ a.others)))) a.spelled in
        let joined : a.front ++ (a.head ∷ (a.tail ++ (a.next ∷ (a.others ++ d.0)))) ≡ (a.front ++ (a.head ∷ (a.tail ++ (a.next ∷ a.others)))) ++ d.0 =
        ap (λ x. a.front ++ (a.head ∷ x)) (sym (append_assoc a.tail (a.next ∷ a.others) d.0)) ∙ sym (append_assoc a.front (a.head ∷ (a.tail ++ (a.next ∷ a.others))) d.0) in
        record {
          front = a.front;
          more = a.more ++ c.0;
          value = c.1;
          parts = a.parts;
          fits = (a.front ++ a.more, c.0, a.value, sym (append_assoc a.front a.more c.0), a.fits, c.2);
          goes_on = every_append Real a.more c.0 a.goes_on c.3;
          head = a.head;
          tail = a.tail;
          later = a.later;
          stops = a.stops;
          is = a.is;
          ends = a.ends;
          next = a.next;
          others = a.others ++ d.0;
          found = d.1;
          spelled = (a.front ++ (a.head ∷ (a.tail ++ (a.next ∷ a.others))), d.0, a.found, joined, a.spelled, d.2);
          parted = a.parted;
          real = (a.real.0, every_append Real a.others d.0 a.real.1 d.3);
          why = a.why;
          again = λ s f. rw (a.again s f) refl;
        }

  then-local : (u : Outcome T A) → p tokens ≡ u → (front : List T) (t : T) (r s : List T) (o : End B) → tokens ≡ front ++ (t ∷ r) → and_then u q ≡ answer o (t ∷ r) → and_then (p (front ++ (t ∷ s))) q ≡ answer o (t ∷ s)
  then-local (Stuck r0) is front t r s (Value w) e h = absurd cc
  then-local (Stuck r0) is front t r s Unexpected e h =
      let left : r0 ≡ t ∷ r = cc in
      rw (first.core.local front t r s Unexpected e (is ∙ ap Stuck left)) refl
  then-local (Past r0) is front t r s (Value w) e h = absurd cc
  then-local (Past r0) is front t r s Unexpected e h = absurd cc
  then-local (Read v r0) is front t r s o e h =
      let a = first.core.sound v r0 is in
      let b = passed v r0 is o (t ∷ r) h in
      let both : front ≡ a.0 ++ b.0 = append_cancel_right front (a.0 ++ b.0) (t ∷ r) (sym e ∙ a.1 ∙ ap (λ x. a.0 ++ x) b.1 ∙ sym (append_assoc a.0 b.0 (t ∷ r))) in
      let there : front ++ (t ∷ s) ≡ a.0 ++ (b.0 ++ (t ∷ s)) = ap (λ x. x ++ (t ∷ s)) both ∙ append_assoc a.0 b.0 (t ∷ s) in
      let again : p (a.0 ++ (b.0 ++ (t ∷ s))) ≡ Read v (b.0 ++ (t ∷ s)) = extend first.core v a.0 b.0 t r s (a.1 ∙ ap (λ x. a.0 ++ x) b.1) (is ∙ ap (Read v) b.1) in
      rw (there, again) ((second v r0 is).core.local b.0 t r s o b.1 h)
    where
      passed : (v : A) (r0 : List T) → p tokens ≡ Read v r0 → (o : End B) (rest : List T) → q v r0 ≡ answer o rest → (y : List T) × (r0 ≡ y ++ rest)
      passed v r0 is (Value w) rest e = let s = (second v r0 is).core.sound w rest e in (s.0, s.1)
      passed v r0 is Unexpected rest e = let s = (second v r0 is).viable rest e in (s.0, s.3)

  -- what a phrase of the second kind begins with may stand behind the first; and each first one goes on somehow
  pub then_reads : ((v : A) (x : List T) (w : B) → Q v x w → V v x w) → ((v : A) (x y : List T) (w : B) (rest : List T) → U x v → V v y w → F rest → G (y ++ rest))
      → ((v : A) (x : List T) → P x v → (y : List T) × (w : B) × Q v y w × Every Real y) → ((v : A) (x : List T) → U x v → (y : List T) × (w : B) × V v y w × Every Real y) → Reads Real Why (P >>= Q) (U >>= V) F (λ ts. and_then (p ts) q) tokens
  then_reads all follows ends ends_all = record {
    core = record {
      sound = then-sound (p tokens) refl;
      complete = then-complete all follows;
      accepts = then-accepts all follows;
      local = then-local (p tokens) refl;
      within = λ x w h. (h.0, h.1, h.2, h.3, first.core.within h.0 h.2 h.4, all h.2 h.1 w h.5);
    };
    viable = then-viable ends (p tokens) refl;
    past = then-past ends ends_all (p tokens) refl;
  }

-- the one or the other

same_start : {T : Type 0} (first : T → Bool) (front : List T) (t : T) (r s : List T) → starts first (front ++ (t ∷ s)) ≡ starts first (front ++ (t ∷ r))
same_start first [] t r s = refl
same_start first (x ∷ front) t r s = refl

module _ {T A : Type 0} (first : T → Bool) (P U Q V : List T → A → Type 0) (F : List T → Type 0) (p q : List T → Outcome T A) (tokens : List T)
    (one_in : (x : List T) (v : A) → P x v → U x v) (other_in : (x : List T) (v : A) → Q x v → V x v)
    (the_one : starts first tokens ≡ true → Core P U F p tokens) (the_other : starts first tokens ≡ false → Core Q V F q tokens) where
  choose-sound : (b : Bool) → starts first tokens ≡ b → (v : A) (rest : List T) → cond b (p tokens) (q tokens) ≡ Read v rest → (front : List T) × (tokens ≡ front ++ rest) × either P Q front v
  choose-sound true is v rest e = let a = (the_one is).sound v rest e in (a.0, a.1, inl a.2)
  choose-sound false is v rest e = let a = (the_other is).sound v rest e in (a.0, a.1, inr a.2)

  choose-within : (x : List T) (v : A) → either P Q x v → either U V x v
  choose-within x v (inl h) = inl (one_in x v h)
  choose-within x v (inr h) = inr (other_in x v h)

  choose-local : (b : Bool) → starts first tokens ≡ b → (front : List T) (t : T) (r s : List T) (o : End A) → tokens ≡ front ++ (t ∷ r) → cond b (p tokens) (q tokens) ≡ answer o (t ∷ r) → choose first p q (front ++ (t ∷ s)) ≡ answer o (t ∷ s)
  choose-local true is front t r s o e h =
      let now : starts first (front ++ (t ∷ s)) ≡ true = same_start first front t r s ∙ ap (starts first) (sym e) ∙ is in
      rw now ((the_one is).local front t r s o e h)
  choose-local false is front t r s o e h =
      let now : starts first (front ++ (t ∷ s)) ≡ false = same_start first front t r s ∙ ap (starts first) (sym e) ∙ is in
      rw now ((the_other is).local front t r s o e h)

  module _ (begins : (x : List T) (v : A) (rest : List T) → U x v → starts first (x ++ rest) ≡ true) (others : (x : List T) (v : A) (rest : List T) → V x v → F rest → starts first (x ++ rest) ≡ false) where
    choose-complete : (front : List T) (v : A) (rest : List T) → tokens ≡ front ++ rest → either P Q front v → F rest → choose first p q tokens ≡ Read v rest
    choose-complete front v rest e (inl h) f =
        let is : starts first tokens ≡ true = ap (starts first) e ∙ begins front v rest (one_in front v h) in
        rw is ((the_one is).complete front v rest e h f)
    choose-complete front v rest e (inr h) f =
        let is : starts first tokens ≡ false = ap (starts first) e ∙ others front v rest (other_in front v h) f in
        rw is ((the_other is).complete front v rest e h f)

    choose-accepts : (front : List T) (v : A) (rest : List T) → tokens ≡ front ++ rest → either U V front v → F rest → (choose first p q tokens ≡ Read v rest) ⊎ IsPast (choose first p q tokens)
    choose-accepts front v rest e (inl h) f =
        let is : starts first tokens ≡ true = ap (starts first) e ∙ begins front v rest h in
        either_way (p tokens) (choose first p q tokens) v rest (rw is refl) ((the_one is).accepts front v rest e h f)
    choose-accepts front v rest e (inr h) f =
        let is : starts first tokens ≡ false = ap (starts first) e ∙ others front v rest h f in
        either_way (q tokens) (choose first p q tokens) v rest (rw is refl) ((the_other is).accepts front v rest e h f)

    -- phrases of the one kind begin with one of these tokens, and nothing else that may stand there does
    pub choose_core : Core (either P Q) (either U V) F (choose first p q) tokens
    choose_core = record {
      sound = choose-sound (starts first tokens) refl;
      complete = choose-complete;
      accepts = choose-accepts;
      local = choose-local (starts first tokens) refl;
      within = choose-within;
    }

module _ {T A : Type 0} {Real : T → Type 0} (first : T → Bool) (W : List T → A → Type 0) (p q : List T → Outcome T A) (tokens : List T) where
  by_viable : (b : Bool) → starts first tokens ≡ b → (starts first tokens ≡ true → IsViable Real W p tokens) → (starts first tokens ≡ false → IsViable Real W q tokens) → (rest : List T) → cond b (p tokens) (q tokens) ≡ Stuck rest
      → (front : List T) × (more : List T) × (value : A) × (tokens ≡ front ++ rest) × W (front ++ more) value × Every Real more
  by_viable true is one other rest e = one is rest e
  by_viable false is one other rest e = other is rest e

  pub choose_viable : (starts first tokens ≡ true → IsViable Real W p tokens) → (starts first tokens ≡ false → IsViable Real W q tokens) → IsViable Real W (choose first p q) tokens
  choose_viable one other = by_viable (starts first tokens) refl one other

pub more_viable : {T A : Type 0} (Real : T → Type 0) (P : List T → A → Type 0) (read : List T → Outcome T A) (tokens : List T) (W : List T → A → Type 0) → ((x : List T) (v : A) → P x v → W x v) → IsViable Real P read tokens → IsViable Real W read tokens
more_viable Real P read tokens W more viable = λ rest e. let s = viable rest e in (s.0, s.1, s.2, s.3, more (s.0 ++ s.1) s.2 s.4, s.5)

module _ {T A : Type 0} {Real : T → Type 0} {Why : List T → (T → Bool) → Type 0} (first : T → Bool) (W U : List T → A → Type 0) (p q : List T → Outcome T A) (tokens : List T) where
  chosen_past : (b : Bool) (read : List T → Outcome T A) (rest : List T) → starts first tokens ≡ b → ((ts : List T) → starts first ts ≡ b → choose first p q ts ≡ read ts) → IsPastAt Real Why W U read tokens rest → IsPastAt Real Why W U (choose first p q) tokens rest
  chosen_past b read rest is same a =
      let here : starts first (a.front ++ (a.head ∷ (a.tail ++ a.later))) ≡ b = ap (starts first) (ap (λ x. a.front ++ x) (sym a.is) ∙ sym a.parts) ∙ is in
      record {
        front = a.front;
        more = a.more;
        value = a.value;
        parts = a.parts;
        fits = a.fits;
        goes_on = a.goes_on;
        head = a.head;
        tail = a.tail;
        later = a.later;
        stops = a.stops;
        is = a.is;
        ends = a.ends;
        next = a.next;
        others = a.others;
        found = a.found;
        spelled = a.spelled;
        parted = a.parted;
        real = a.real;
        why = a.why;
        again = λ s f. same (a.front ++ (a.head ∷ (a.tail ++ s))) (same_start first a.front a.head (a.tail ++ a.later) (a.tail ++ s) ∙ here) ∙ a.again s f;
      }

  by_past : (b : Bool) → starts first tokens ≡ b → (starts first tokens ≡ true → IsPassed Real Why W U p tokens) → (starts first tokens ≡ false → IsPassed Real Why W U q tokens) → (rest : List T) → cond b (p tokens) (q tokens) ≡ Past rest → IsPastAt Real Why W U (choose first p q) tokens rest
  by_past true is one other rest e = chosen_past true p rest is (λ ts was. rw was refl) (one is rest e)
  by_past false is one other rest e = chosen_past false q rest is (λ ts was. rw was refl) (other is rest e)

  pub choose_past : (starts first tokens ≡ true → IsPassed Real Why W U p tokens) → (starts first tokens ≡ false → IsPassed Real Why W U q tokens) → IsPassed Real Why W U (choose first p q) tokens
  choose_past one other = by_past (starts first tokens) refl one other

pub more_past : {T A : Type 0} (Real : T → Type 0) (Why : List T → (T → Bool) → Type 0) (P V : List T → A → Type 0) (read : List T → Outcome T A) (tokens : List T) (W U : List T → A → Type 0) → ((x : List T) (v : A) → P x v → W x v) → ((x : List T) (v : A) → V x v → U x v) → IsPassed Real Why P V read tokens → IsPassed Real Why W U read tokens
more_past Real Why P V read tokens W U to to_all past = λ rest e. restate_past W U read to to_all (λ ts. refl) (past rest e)

module _ {T A : Type 0} (Real : T → Type 0) (Why : List T → (T → Bool) → Type 0) (first : T → Bool) (P U Q V : List T → A → Type 0) (F : List T → Type 0) (p q : List T → Outcome T A) (tokens : List T)
    (one_in : (x : List T) (v : A) → P x v → U x v) (other_in : (x : List T) (v : A) → Q x v → V x v)
    (the_one : starts first tokens ≡ true → Reads Real Why P U F p tokens) (the_other : starts first tokens ≡ false → Reads Real Why Q V F q tokens) where
  pub choose_reads : ((x : List T) (v : A) (rest : List T) → U x v → starts first (x ++ rest) ≡ true) → ((x : List T) (v : A) (rest : List T) → V x v → F rest → starts first (x ++ rest) ≡ false) → Reads Real Why (either P Q) (either U V) F (choose first p q) tokens
  choose_reads begins others = record {
    core = choose_core first P U Q V F p q tokens one_in other_in (λ is. (the_one is).core) (λ is. (the_other is).core) begins others;
    viable = choose_viable first (either P Q) p q tokens (λ is. more_viable Real P p tokens (either P Q) (λ x v h. inl h) (the_one is).viable) (λ is. more_viable Real Q q tokens (either P Q) (λ x v h. inr h) (the_other is).viable);
    past = choose_past first (either P Q) (either U V) p q tokens (λ is. more_past Real Why P U p tokens (either P Q) (either U V) (λ x v h. inl h) (λ x v h. inl h) (the_one is).past) (λ is. more_past Real Why Q V q tokens (either P Q) (either U V) (λ x v h. inr h) (λ x v h. inr h) (the_other is).past);
  }
