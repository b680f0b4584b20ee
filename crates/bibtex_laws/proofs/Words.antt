-- Parts for runs of bytes, words, and blanks behind them.
use Rattle.std.proofs.Common.{◌≡◌, ℕ, Bool, true, false, List, [], ◌∷◌, ◌++◌, Option, Some, None, refl, sym, ap, subst, ◌∙◌, inl}
use Rattle.std.specs.Prelude.{if◌then◌else◌}
use Rattle.std.proofs.lemmas.List.{append-nil, append_cancel_right}
use Rattle.grammar.specs.Fault.{Every}
use Rattle.grammar.specs.Grammar.{nothing, one}
use Rattle.grammar.specs.Grammar as grammar
use Rattle.grammar.specs.Reading.{Outcome, Read, and_then, starts, choose, take_one}
use Rattle.grammar.proofs.Laws.{Stops}
use Rattle.bibtex_laws.proofs.Laws.{End, Value, Unexpected, answer}
use Rattle.bibtex_laws.proofs.Parts.{Part, ◌>>=◌, give_part, one_part, then_part, weaken_part, restate_part}
use Rattle.bibtex_spec.specs.Bytes.{is_blank, run, behind}
use Rattle.bibtex_spec.specs.Reading.{stuck}
use Rattle.bibtex_laws.specs.Grammar.{each, blanks, spaced}
use Rattle.bibtex_laws.specs.Limits.{IsByte}

-- the longest run
module _ (belongs : ℕ → Bool) where
  pub run_parts : (ts : List ℕ) → ts ≡ run belongs ts ++ behind belongs ts
  run_parts [] = refl
  run_parts (b ∷ ts) = by (belongs b) refl (run_parts ts)
    where
      by : (p : Bool) → belongs b ≡ p → ts ≡ run belongs ts ++ behind belongs ts → b ∷ ts ≡ run belongs (b ∷ ts) ++ behind belongs (b ∷ ts)
      by true is again = rw is (ap (λ x. b ∷ x) again)
      by false is again = rw is refl

  pub run_every : (ts : List ℕ) → Every (λ b. belongs b ≡ true) (run belongs ts)
  run_every [] = tt
  run_every (b ∷ ts) = by (belongs b) refl (run_every ts)
    where
      by : (p : Bool) → belongs b ≡ p → Every (λ b. belongs b ≡ true) (run belongs ts) → Every (λ b. belongs b ≡ true) (run belongs (b ∷ ts))
      by true is again = rw is (is, again)
      by false is again = rw is tt

  pub behind_stops : (ts : List ℕ) → starts belongs (behind belongs ts) ≡ false
  behind_stops [] = refl
  behind_stops (b ∷ ts) = by (belongs b) refl (behind_stops ts)
    where
      by : (p : Bool) → belongs b ≡ p → starts belongs (behind belongs ts) ≡ false → starts belongs (behind belongs (b ∷ ts)) ≡ false
      by true is again = rw is again
      by false is again = rw is is

  pub run_none : (rest : List ℕ) → starts belongs rest ≡ false → (run belongs rest ≡ []) × (behind belongs rest ≡ rest)
  run_none [] is = (refl, refl)
  run_none (b ∷ rest) is = (rw is refl, rw is refl)

  pub run_exact : (front rest : List ℕ) → Every (λ b. belongs b ≡ true) front → starts belongs rest ≡ false → (run belongs (front ++ rest) ≡ front) × (behind belongs (front ++ rest) ≡ rest)
  run_exact [] rest h is = run_none rest is
  run_exact (b ∷ front) rest h is =
      let a = run_exact front rest h.1 is in
      (rw (h.0, a.0) refl, rw (h.0, a.1) refl)

  module _ (f : List ℕ → List ℕ) where
    abbrev pub mapped : List ℕ → List ℕ → Type 0
    mapped bytes text = Every (λ b. belongs b ≡ true) bytes × (text ≡ f bytes)

    abbrev pub read_mapped : List ℕ → Outcome ℕ (List ℕ)
    read_mapped ts = Read (f (run belongs ts)) (behind belongs ts)

    mapped_complete : (tokens front value rest : List ℕ) → tokens ≡ front ++ rest → mapped front value → Stops belongs rest → read_mapped tokens ≡ Read value rest
    mapped_complete tokens front value rest e h is =
        let a = run_exact front rest h.0 is in
        rw (e, a.0, a.1, h.1) refl

    mapped_local : (tokens front : List ℕ) (t : ℕ) (r s : List ℕ) (o : End (List ℕ)) → tokens ≡ front ++ (t ∷ r) → read_mapped tokens ≡ answer o (t ∷ r) → read_mapped (front ++ (t ∷ s)) ≡ answer o (t ∷ s)
    mapped_local tokens front t r s Unexpected e h = absurd cc
    mapped_local tokens front t r s (Value v) e h =
        let left : behind belongs tokens ≡ t ∷ r = cc in
        let same : front ≡ run belongs tokens = append_cancel_right front (run belongs tokens) (t ∷ r) (sym e ∙ run_parts tokens ∙ ap (λ x. run belongs tokens ++ x) left) in
        let stops : belongs t ≡ false = ap (starts belongs) (sym left) ∙ behind_stops tokens in
        let all : Every (λ b. belongs b ≡ true) front = subst (λ x. Every (λ b. belongs b ≡ true) x) (sym same) (run_every tokens) in
        let a = run_exact front (t ∷ s) all stops in
        let found : f front ≡ v = ap f same ∙ (cc) in
        rw (a.0, a.1, found) refl

    pub mapped_part : {Why : List ℕ → (ℕ → Bool) → Type 0} → Part IsByte Why mapped mapped (Stops belongs) read_mapped
    mapped_part = record {
      reads = λ tokens. record {
        core = record {
          sound = λ value rest e.
              let left : behind belongs tokens ≡ rest = cc in
              let found : value ≡ f (run belongs tokens) = cc in
              (run belongs tokens, run_parts tokens ∙ ap (λ x. run belongs tokens ++ x) left, (run_every tokens, found));
          complete = mapped_complete tokens;
          accepts = λ front value rest e h is. inl (mapped_complete tokens front value rest e h is);
          local = mapped_local tokens;
          within = λ x v h. h;
        };
        viable = λ rest e. absurd cc;
        past = λ rest e. absurd cc;
      };
      phrase = ([], f [], (tt, refl), tt);
    }

pub each_part : {Why : List ℕ → (ℕ → Bool) → Type 0} (belongs : ℕ → Bool) → Part IsByte Why (each belongs) (each belongs) (Stops belongs) (λ ts. Read (run belongs ts) (behind belongs ts))
each_part belongs = mapped_part belongs (λ x. x)

-- words

abbrev pub of_kind : (ℕ → Bool) → ℕ → Option ℕ
of_kind first b = if first b then Some b else None

pub of_kind_is : (first : ℕ → Bool) (b v : ℕ) → of_kind first b ≡ Some v → (first b ≡ true) × (b ≡ v)
of_kind_is first b v = by (first b) refl
  where
    by : (p : Bool) → first b ≡ p → (if p then Some b else None) ≡ Some v → (first b ≡ true) × (b ≡ v)
    by true is e = (is, cc)
    by false is e = absurd cc

module _ (first belongs : ℕ → Bool) (f : List ℕ → List ℕ) (all : (b : ℕ) → first b ≡ true → belongs b ≡ true) where
  abbrev pub mapped_word : List ℕ → List ℕ → Type 0
  mapped_word bytes text = (starts first bytes ≡ true) × Every (λ b. belongs b ≡ true) bytes × (text ≡ f bytes)

  abbrev pub read_word : List ℕ → Outcome ℕ (List ℕ)
  read_word = choose first (λ ts. Read (f (run belongs ts)) (behind belongs ts)) stuck

  abbrev two : List ℕ → List ℕ → Type 0
  two = grammar.◌>>=◌ (one (of_kind first)) (λ b. mapped belongs (λ bs. f (b ∷ bs)))

  to_word : (x v : List ℕ) → two x v → mapped_word x v
  to_word x v h =
      let first_is = of_kind_is first h.4.0 h.2 h.4.2 in
      let parts : x ≡ h.2 ∷ h.1 = h.3 ∙ ap (λ y. y ++ h.1) h.4.1 ∙ ap (λ y. y ∷ h.1) first_is.1 in
      let is : first h.2 ≡ true = ap first (sym first_is.1) ∙ first_is.0 in
      (ap (starts first) parts ∙ is, subst (λ y. Every (λ b. belongs b ≡ true) y) (sym parts) (all h.2 is, h.5.0), h.5.1 ∙ ap f (sym parts))

  from_word : (x v : List ℕ) → mapped_word x v → two x v
  from_word [] v h = absurd cc
  from_word (b ∷ bs) v h = (b ∷ [], bs, b, refl, (b, refl, rw h.0 refl), (h.1.1, h.2))

  same_word : (ts : List ℕ) → read_word ts ≡ and_then (take_one true (of_kind first) ts) (λ b rest. Read (f (b ∷ run belongs rest)) (behind belongs rest))
  same_word [] = refl
  same_word (t ∷ ts) = by (first t) refl
    where
      by : (p : Bool) → first t ≡ p → read_word (t ∷ ts) ≡ and_then (take_one true (of_kind first) (t ∷ ts)) (λ b rest. Read (f (b ∷ run belongs rest)) (behind belongs rest))
      by true is = rw (is, all t is) refl
      by false is = rw is refl

  pub mapped_word_part : {Why : List ℕ → (ℕ → Bool) → Type 0} (b : ℕ) → first b ≡ true → IsByte b → Part IsByte Why mapped_word mapped_word (Stops belongs) read_word
  mapped_word_part b is real =
      restate_part mapped_word mapped_word read_word to_word from_word to_word from_word same_word
      (one_part (of_kind first) b b (rw is refl) real >>= λ c. mapped_part belongs (λ bs. f (c ∷ bs)))

-- blanks

pub blanks_part : {A : Type 0} {Why : List ℕ → (ℕ → Bool) → Type 0} (v : A) → Part IsByte Why (blanks v) (blanks v) (Stops is_blank) (λ ts. Read v (behind is_blank ts))
blanks_part v = then_part (each_part is_blank) (λ _. weaken_part (Stops is_blank) (λ _ _. tt) (give_part v)) (λ _ y w rest h f. subst (λ x. Stops is_blank (x ++ rest)) (sym h.0) f)

-- none of these may stand first behind, and no blank
abbrev pub Clear : (ℕ → Bool) → List ℕ → Type 0
Clear belongs rest = (starts belongs rest ≡ false) × (starts is_blank rest ≡ false)

blanks_stop : (belongs : ℕ → Bool) → ((b : ℕ) → is_blank b ≡ true → belongs b ≡ false) → (x rest : List ℕ) → Every (λ b. is_blank b ≡ true) x → starts belongs rest ≡ false → starts belongs (x ++ rest) ≡ false
blanks_stop belongs apart [] rest h is = is
blanks_stop belongs apart (b ∷ x) rest h is = apart b h.0

pub spaced_part : {A : Type 0} {Why : List ℕ → (ℕ → Bool) → Type 0} {P U : List ℕ → A → Type 0} {p : List ℕ → Outcome ℕ A} (belongs : ℕ → Bool) → ((b : ℕ) → is_blank b ≡ true → belongs b ≡ false) → Part IsByte Why P U (Stops belongs) p
    → Part IsByte Why (spaced P) (spaced U) (Clear belongs) (λ ts. and_then (p ts) (λ v rest. Read v (behind is_blank rest)))
spaced_part belongs apart part =
    then_part part (λ v. weaken_part (Clear belongs) (λ rest f. f.1) (blanks_part v))
    (λ v y w rest h f. subst (λ x. starts belongs (x ++ rest) ≡ false) (sym (h.3 ∙ ap (λ x. h.0 ++ x) h.5.0 ∙ append-nil h.0)) (blanks_stop belongs apart h.0 rest h.4.0 f.0))
