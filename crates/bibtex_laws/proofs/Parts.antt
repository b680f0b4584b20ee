-- Parts of a grammar, within limits or not, with their readers, put together as the grammar is.
use Rattle.std.proofs.Common.{◌≡◌, ℕ, zero, suc, Bool, true, false, List, [], ◌∷◌, ◌++◌, Option, Some, refl, sym, ap, subst, ◌∙◌, inl}
use Rattle.grammar.specs.Fault.{Every}
use Rattle.grammar.specs.Grammar.{nothing, one, either, steps, iterated}
use Rattle.grammar.specs.Grammar as grammar
use Rattle.grammar.specs.Reading.{Outcome, and_then, give, take_one, starts, choose, iterate}
use Rattle.grammar.proofs.Laws.{Always, Stops, every_append}
use Rattle.grammar.proofs.Parts.{Opens, first_is}
use Rattle.bibtex_laws.proofs.Laws.{Reads, weaken, restate, give_reads, one_reads, then_reads, choose_reads}
use Rattle.bibtex_laws.proofs.Iterate.{iterate_reads}

-- The reader reads the part's phrases wherever they stand, and there is one within the limits, of tokens that a text can have.
pub record Part {T A : Type 0} (Real : T → Type 0) (Why : List T → (T → Bool) → Type 0) (P U : List T → A → Type 0) (Follow : List T → Type 0) (read : List T → Outcome T A) : Type 0 where
  pub reads : (tokens : List T) → Reads Real Why P U Follow read tokens
  pub phrase : (tokens : List T) × (value : A) × P tokens value × Every Real tokens

module _ {T A : Type 0} {Real : T → Type 0} {Why : List T → (T → Bool) → Type 0} where
  pub give_part : (v : A) → Part Real Why (nothing v) (nothing v) Always (give v)
  give_part v = record { reads = give_reads v; phrase = ([], v, (refl, refl), tt) }

  pub one_part : (value : T → Option A) (some : T) (found : A) → value some ≡ Some found → Real some → Part Real Why (one value) (one value) Always (take_one true value)
  one_part value some found known real = record { reads = one_reads value some found known real; phrase = (some ∷ [], found, (some, refl, known), (real, tt)) }

pub part_within : {T A : Type 0} {Real : T → Type 0} {Why : List T → (T → Bool) → Type 0} {P U : List T → A → Type 0} {F : List T → Type 0} {read : List T → Outcome T A} → Part Real Why P U F read → (x : List T) (v : A) → P x v → U x v
part_within part = (part.reads []).core.within

pub weaken_part : {T A : Type 0} {Real : T → Type 0} {Why : List T → (T → Bool) → Type 0} {P U : List T → A → Type 0} {F : List T → Type 0} {read : List T → Outcome T A} (G : List T → Type 0) → ((rest : List T) → G rest → F rest) → Part Real Why P U F read → Part Real Why P U G read
weaken_part G implies part = record { reads = λ tokens. weaken G implies (part.reads tokens); phrase = part.phrase }

pub restate_part : {T A : Type 0} {Real : T → Type 0} {Why : List T → (T → Bool) → Type 0} {P U : List T → A → Type 0} {F : List T → Type 0} {read : List T → Outcome T A} (P' U' : List T → A → Type 0) (read' : List T → Outcome T A)
    → ((x : List T) (v : A) → P x v → P' x v) → ((x : List T) (v : A) → P' x v → P x v) → ((x : List T) (v : A) → U x v → U' x v) → ((x : List T) (v : A) → U' x v → U x v) → ((ts : List T) → read' ts ≡ read ts) → Part Real Why P U F read → Part Real Why P' U' F read'
restate_part P' U' read' to from to_all from_all same part = record {
  reads = λ tokens. restate P' U' read' to from to_all from_all same (part.reads tokens);
  phrase = (part.phrase.0, part.phrase.1, to part.phrase.0 part.phrase.1 part.phrase.2, part.phrase.3);
}

module _ {T A B : Type 0} {Real : T → Type 0} {Why : List T → (T → Bool) → Type 0} {P U : List T → A → Type 0} {Q V : A → List T → B → Type 0} {G F : List T → Type 0} {p : List T → Outcome T A} {q : A → List T → Outcome T B} where
  -- one part behind the other
  pub then_part : Part Real Why P U G p → ((v : A) → Part Real Why (Q v) (V v) F (q v)) → ((v : A) (y : List T) (w : B) (rest : List T) → V v y w → F rest → G (y ++ rest)) → Part Real Why (grammar.◌>>=◌ P Q) (grammar.◌>>=◌ U V) F (λ ts. and_then (p ts) q)
  then_part a b follows = record {
    reads = λ tokens. then_reads Real Why P U Q V G F p q tokens (a.reads tokens) (λ v r _. (b v).reads r) (λ v. part_within (b v)) (λ v x y w rest _ h f. follows v y w rest h f)
        (λ v x _. (b v).phrase) (λ v x _. ((b v).phrase.0, (b v).phrase.1, part_within (b v) (b v).phrase.0 (b v).phrase.1 (b v).phrase.2, (b v).phrase.3));
    phrase = (a.phrase.0 ++ (b a.phrase.1).phrase.0, (b a.phrase.1).phrase.1, (a.phrase.0, (b a.phrase.1).phrase.0, a.phrase.1, refl, a.phrase.2, (b a.phrase.1).phrase.2), every_append Real a.phrase.0 (b a.phrase.1).phrase.0 a.phrase.3 (b a.phrase.1).phrase.3);
  }

  -- a part behind another, where the tokens that it opens with may stand there
  pub then_opens : (W : T → Type 0) → Part Real Why P U G p → ((v : A) → Part Real Why (Q v) (V v) F (q v)) → ((v : A) → Opens (V v) W) → ((t : T) (later : List T) → W t → G (t ∷ later)) → Part Real Why (grammar.◌>>=◌ P Q) (grammar.◌>>=◌ U V) F (λ ts. and_then (p ts) q)
  then_opens W a b opens may = then_part a b (λ v y w rest h _. let o = opens v y w h in subst (λ x. G (x ++ rest)) (sym o.2) (may o.0 (o.1 ++ rest) o.3))

module _ {T A B : Type 0} {Real : T → Type 0} {Why : List T → (T → Bool) → Type 0} {P U : List T → A → Type 0} {Q V : A → List T → B → Type 0} {F : List T → Type 0} {p : List T → Outcome T A} {q : A → List T → Outcome T B} where
  infixl 10 ◌>>=◌
  -- a part behind one that asks nothing of what stands behind it
  pub ◌>>=◌ : Part Real Why P U Always p → ((v : A) → Part Real Why (Q v) (V v) F (q v)) → Part Real Why (grammar.◌>>=◌ P Q) (grammar.◌>>=◌ U V) F (λ ts. and_then (p ts) q)
  a >>= b = then_part a b (λ _ _ _ _ _ _. tt)

module _ {T A B : Type 0} {Real : T → Type 0} {Why : List T → (T → Bool) → Type 0} {P U : List T → A → Type 0} {Q V : A → List T → B → Type 0} {F : List T → Type 0} {p : List T → Outcome T A} {q : A → List T → Outcome T B} where
  -- a part behind one that goes on for as long as a token of the set comes
  pub stop_then : (first : T → Bool) → Part Real Why P U (Stops first) p → ((v : A) → Part Real Why (Q v) (V v) F (q v)) → ((v : A) → Opens (V v) (λ t. first t ≡ false)) → Part Real Why (grammar.◌>>=◌ P Q) (grammar.◌>>=◌ U V) F (λ ts. and_then (p ts) q)
  stop_then first a b opens = then_part a b (λ v y w rest h _. first_is (V v) first false (opens v) y w rest h)

-- any number of steps, each of which opens with a token of the set, with what may stand before them
module _ {T S : Type 0} {U : S → List T → S → Type 0} {G F : List T → Type 0} (first : T → Bool) (opens : (state : S) → Opens (U state) (λ t. first t ≡ true)) (may : (t : T) (later : List T) → first t ≡ true → G (t ∷ later)) (implies : (rest : List T) → F rest → G rest) where
  by_steps : (n : ℕ) (y : List T) (state last : S) (rest : List T) → steps U n state y last → F rest → G (y ++ rest)
  by_steps zero y state last rest h f = subst (λ x. G (x ++ rest)) (sym h.0) (implies rest f)
  by_steps (suc n) y state last rest h f =
      let o = opens state h.0 h.2 h.4 in
      subst (λ x. G (x ++ rest)) (sym (h.3 ∙ ap (λ x. x ++ h.1) o.2)) (may o.0 ((o.1 ++ h.1) ++ rest) o.3)

  pub steps_follow : (y : List T) (state last : S) (rest : List T) → iterated U state y last → F rest → G (y ++ rest)
  steps_follow y state last rest h f = by_steps h.0 y state last rest h.1 f

module _ {T S : Type 0} {Real : T → Type 0} {Why : List T → (T → Bool) → Type 0} {P U : S → List T → S → Type 0} {G F : List T → Type 0} {step : S → List T → Outcome T S} where
  -- any number of steps
  pub iterated_part : (first : T → Bool) → ((state : S) → Part Real Why (P state) (U state) G (step state)) → ((state : S) → Opens (U state) (λ t. first t ≡ true)) → ((t : T) (later : List T) → first t ≡ true → G (t ∷ later)) → ((rest : List T) → F rest → G rest) → ((rest : List T) → F rest → starts first rest ≡ false)
      → (state : S) → Part Real Why (iterated P state) (iterated U state) F (iterate first step state)
  iterated_part first a opens may implies stops state = record {
    reads = iterate_reads Real Why first P U G F step (λ s. first_is (U s) first true (opens s)) stops (steps_follow first opens may implies) (λ s. (a s).reads) state;
    phrase = ([], state, (0, (refl, refl)), tt);
  }

module _ {T A : Type 0} {Real : T → Type 0} {Why : List T → (T → Bool) → Type 0} {P U Q V : List T → A → Type 0} {F : List T → Type 0} {p q : List T → Outcome T A} where
  -- the one part where a token of the set is first, else the other
  pub choose_part : (first : T → Bool) → Part Real Why P U F p → Part Real Why Q V F q → Opens U (λ t. first t ≡ true) → ((x : List T) (v : A) (rest : List T) → V x v → F rest → starts first (x ++ rest) ≡ false) → Part Real Why (either P Q) (either U V) F (choose first p q)
  choose_part first a b opens others = record {
    reads = λ tokens. choose_reads Real Why first P U Q V F p q tokens (part_within a) (part_within b) (λ _. a.reads tokens) (λ _. b.reads tokens) (first_is U first true opens) others;
    phrase = (a.phrase.0, a.phrase.1, inl a.phrase.2, a.phrase.3);
  }
