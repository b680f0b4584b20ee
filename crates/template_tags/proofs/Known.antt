-- A part of the grammar that begins with a token which has a value only sometimes, before another part.
use Rattle.std.proofs.Common.{◌≡◌, Bool, true, false, List, [], ◌∷◌, ◌++◌, Option, Some, inr}
use Rattle.grammar.specs.Grammar.{one, either}
use Rattle.grammar.specs.Grammar as grammar
use Rattle.grammar.specs.Reading.{Outcome, and_then, take_one, starts, choose}
use Rattle.grammar.proofs.Laws.{Reads, Always, one_reads, then_reads, choose_reads}
use Rattle.grammar.proofs.Parts.{Part, part_within, first_is, opens_then, opens_one}

module _ {T A B : Type 0} {Real : T → Type 0} (value : T → Option A) (first : T → Bool) (known : (t : T) (v : A) → value t ≡ Some v → first t ≡ true) (some : (t : T) → first t ≡ true → (v : A) × (value t ≡ Some v))
    {Q V : A → List T → B → Type 0} {F : List T → Type 0} {q : A → List T → Outcome T B} (tail : (v : A) → Part Real (Q v) (V v) F (q v)) where
  -- a token that has a value is read
  one_here : (t : T) (ts : List T) (v : A) → value t ≡ Some v → Reads Real (one value) (one value) Always (take_one true value) (t ∷ ts)
  one_here t ts v is =
      let base : Reads (λ _. Unit {0}) (one value) (one value) Always (take_one true value) (t ∷ ts) = one_reads value t v is tt (t ∷ ts) in
      record {
        sound = base.sound;
        complete = base.complete;
        accepts = base.accepts;
        viable = λ rest e. absurd cc;
        past = λ rest e. absurd cc;
        local = base.local;
        within = base.within;
      }

  here_reads : (tokens : List T) → starts first tokens ≡ true → Reads Real (grammar.◌>>=◌ (one value) Q) (grammar.◌>>=◌ (one value) V) F (λ ts. and_then (take_one true value ts) q) tokens
  here_reads [] is = absurd cc
  here_reads (t ∷ ts) is =
      let v = some t is in
      then_reads Real (one value) (one value) Q V Always F (take_one true value) q (t ∷ ts) (one_here t ts v.0 v.1) (λ w r _. (tail w).reads r) (λ w. part_within (tail w)) (λ _ _ _ _ _ _ _ _. tt)
      (λ w x _. (tail w).phrase) (λ w x _. ((tail w).phrase.0, (tail w).phrase.1, part_within (tail w) (tail w).phrase.0 (tail w).phrase.1 (tail w).phrase.2, (tail w).phrase.3))

  module _ {P U : List T → B → Type 0} {p : List T → Outcome T B} (other : Part Real P U F p) (others : (x : List T) (v : B) (rest : List T) → U x v → F rest → starts first (x ++ rest) ≡ false) where
    -- the part with the token where there is one, else the other
    pub known_or : Part Real (either (grammar.◌>>=◌ (one value) Q) P) (either (grammar.◌>>=◌ (one value) V) U) F (choose first (λ ts. and_then (take_one true value ts) q) p)
    known_or = record {
      reads = λ tokens. choose_reads Real first (grammar.◌>>=◌ (one value) Q) (grammar.◌>>=◌ (one value) V) P U F (λ ts. and_then (take_one true value ts) q) p tokens
          (λ x v h. (h.0, h.1, h.2, h.3, h.4, part_within (tail h.2) h.1 v h.5)) (part_within other) (here_reads tokens) (λ _. other.reads tokens)
          (first_is (grammar.◌>>=◌ (one value) V) first true (opens_then (one value) V (λ t. first t ≡ true) (opens_one value (λ t. first t ≡ true) known))) others;
      phrase = (other.phrase.0, other.phrase.1, inr other.phrase.2, other.phrase.3);
    }
