-- Lists that grow by what has P.
use Rattle.std.proofs.Common.{◌≡◌, ◌⊎◌, ℕ, ◌+◌, ◌<◌, ◌≤◌, List, [], ◌∷◌, ◌++◌, length, get_or, take, inl, inr, ⊎_elim, sym, ap, ◌∙◌, subst}
use Rattle.std.specs.Prelude.{Contains, Option, Some, None}
use Rattle.std.specs.Option.{MatchOption}
use Rattle.std.proofs.lemmas.List.{take_more, take_all}
use Rattle.std.proofs.lemmas.List.Elements.{Contains-append_left, Contains-push_cases, Contains-push}
use Rattle.sd_value.specs.Members.{Contains-nil, Contains-here}
use Rattle.site_spec.specs.Site.{SomeOf}
use Rattle.site_lookups.proofs.Some.{some_from, some_left, some_right, some_either, some_cons}
use Rattle.site_build.specs.Gains.{Gains}

pub gains_none : {X : Type 0} (P : X → Type 0) (xs : List X) → ((x : X) → P x → ⊥) → Gains P xs xs
gains_none P xs none = record { to = λ x h. inl h; kept = λ x h. h; gained = λ x p. absurd (none x p) }

pub gains_as : {X : Type 0} (P Q : X → Type 0) (a b : List X) → Gains P a b → ((x : X) → P x → Q x) → ((x : X) → Q x → P x) → Gains Q a b
gains_as P Q a b g to from = record {
  to = λ x h. ⊎_elim (λ k. inl k) (λ p. inr (to x p)) (g.to x h);
  kept = g.kept;
  gained = λ x q. g.gained x (from x q);
}

pub gains_push : {X : Type 0} (P : X → Type 0) (old : List X) (m : X) → P m → ((x : X) → P x → m ≡ x) → Gains P old (old ++ m ∷ [])
gains_push P old m p single = record {
  to = λ x h. ⊎_elim (λ k. inl k) (λ e. inr (subst P e p)) (Contains-push_cases old m x h);
  kept = λ x h. Contains-append_left old (m ∷ []) x h;
  gained = λ x q. subst (Contains (old ++ m ∷ [])) (single x q) (Contains-push old m);
}

-- the one item that has P, if there is one
pub gains_one : {X : Type 0} (P : X → Type 0) (old new : List X) (o : Option X) → MatchOption o ((x : X) → P x → ⊥) (λ x. P x) → ((x y : X) → P x → P y → x ≡ y) → Gains (λ x. o ≡ Some x) old new → Gains P old new
gains_one P old new None none single g = gains_as (λ x. None ≡ Some x) P old new g (λ x e. cc) (λ x p. absurd (none x p))
gains_one P old new (Some m) p single g = gains_as (λ x. Some m ≡ Some x) P old new g (λ x e. let same : m ≡ x = cc in subst P same p) (λ x q. ap Some (single m x p q))

some_turned : {S T : Type 0} (Q : S → T → Type 0) (ss : List S) (ts : List T) → SomeOf (λ t. SomeOf (λ s. Q s t) ss) ts → SomeOf (λ s. SomeOf (λ t. Q s t) ts) ss
some_turned Q ss ts h = some_from (λ s. SomeOf (λ t. Q s t) ts) ss h.holds.item h.holds.within (some_from (λ t. Q h.holds.item t) ts h.item h.within h.holds.holds)

-- of two lists of givers, either way round
pub gains_turned : {X S T : Type 0} (Q : S → T → X → Type 0) (ss : List S) (ts : List T) (a b : List X) → Gains (λ x. SomeOf (λ t. SomeOf (λ s. Q s t x) ss) ts) a b → Gains (λ x. SomeOf (λ s. SomeOf (λ t. Q s t x) ts) ss) a b
gains_turned Q ss ts a b g = gains_as (λ x. SomeOf (λ t. SomeOf (λ s. Q s t x) ss) ts) (λ x. SomeOf (λ s. SomeOf (λ t. Q s t x) ts) ss) a b g
    (λ x h. some_turned (λ s t. Q s t x) ss ts h) (λ x h. some_turned (λ t s. Q s t x) ts ss h)

-- of one list of givers, and then of another
pub gains_both : {X T : Type 0} (Q : T → X → Type 0) (ss ts : List T) (a b c : List X) → Gains (λ x. SomeOf (λ t. Q t x) ss) a b → Gains (λ x. SomeOf (λ t. Q t x) ts) b c → Gains (λ x. SomeOf (λ t. Q t x) (ss ++ ts)) a c
gains_both Q ss ts a b c g h = record {
  to = λ x i. ⊎_elim
      (λ k. ⊎_elim (λ j. inl j) (λ s. inr (some_left (λ t. Q t x) ss ts s)) (g.to x k))
      (λ s. inr (some_right (λ t. Q t x) ss ts s)) (h.to x i);
  kept = λ x i. h.kept x (g.kept x i);
  gained = λ x s. ⊎_elim (λ l. h.kept x (g.gained x l)) (λ r. h.gained x r) (some_either (λ t. Q t x) ss ts s);
}

pub gains_only : {X T : Type 0} (Q : T → X → Type 0) (t : T) (a b : List X) → Gains (Q t) a b → Gains (λ x. SomeOf (λ z. Q z x) (t ∷ [])) a b
gains_only Q t a b g = gains_as (Q t) (λ x. SomeOf (λ z. Q z x) (t ∷ [])) a b g
    (λ x q. some_from (λ z. Q z x) (t ∷ []) t (Contains-here t []) q)
    (λ x s. ⊎_elim (λ q. q) (λ r. absurd (Contains-nil r.item r.within)) (some_cons (λ z. Q z x) t [] s))

pub gains_nil : {X T : Type 0} (Q : T → X → Type 0) (a : List X) → Gains (λ x. SomeOf (λ z. Q z x) []) a a
gains_nil Q a = gains_none (λ x. SomeOf (λ z. Q z x) []) a (λ x s. absurd (Contains-nil s.item s.within))

-- the giver after those before it
pub gains_next : {X T : Type 0} (Q : T → X → Type 0) (from : List T) (i : ℕ) (t : T) (a b c : List X) → i < length from → t ≡ get_or from i t → Gains (λ x. SomeOf (λ z. Q z x) (take i from)) a b → Gains (Q t) b c → Gains (λ x. SomeOf (λ z. Q z x) (take (i + 1) from)) a c
gains_next Q from i t a b c l is g h =
    subst (λ f. Gains (λ x. SomeOf (λ z. Q z x) f) a c) (sym (take_more from i t l ∙ ap (λ z. take i from ++ z ∷ []) (sym is)))
    (gains_both Q (take i from) (t ∷ []) a b c g (gains_only Q t b c h))

pub gains_end : {X T : Type 0} (Q : T → X → Type 0) (from : List T) (i : ℕ) (a b : List X) → length from ≤ i → Gains (λ x. SomeOf (λ z. Q z x) (take i from)) a b → Gains (λ x. SomeOf (λ z. Q z x) from) a b
gains_end Q from i a b l g = subst (λ f. Gains (λ x. SomeOf (λ z. Q z x) f) a b) (take_all i from l) g

-- three kinds of givers, one after another
pub gains_three : {X : Type 0} (P Q R S : X → Type 0) (a b c d : List X) → Gains P a b → Gains Q b c → Gains R c d
    → ((x : X) → P x → S x) → ((x : X) → Q x → S x) → ((x : X) → R x → S x) → ((x : X) → S x → P x ⊎ (Q x ⊎ R x)) → Gains S a d
gains_three P Q R S a b c d g h k p q r s = record {
  to = λ x i. ⊎_elim
      (λ j. ⊎_elim (λ m. ⊎_elim (λ n. inl n) (λ n. inr (p x n)) (g.to x m)) (λ m. inr (q x m)) (h.to x j))
      (λ j. inr (r x j)) (k.to x i);
  kept = λ x i. k.kept x (h.kept x (g.kept x i));
  gained = λ x i. ⊎_elim (λ j. k.kept x (h.kept x (g.gained x j))) (λ j. ⊎_elim (λ m. k.kept x (h.gained x m)) (λ m. k.gained x m) j) (s x i);
}

-- two kinds of givers, one after the other
pub gains_two : {X : Type 0} (P Q : X → Type 0) (a b c : List X) → Gains P a b → Gains Q b c → Gains (λ x. P x ⊎ Q x) a c
gains_two P Q a b c g h = record {
  to = λ x i. ⊎_elim (λ j. ⊎_elim (λ m. inl m) (λ m. inr (inl m)) (g.to x j)) (λ j. inr (inr j)) (h.to x i);
  kept = λ x i. h.kept x (g.kept x i);
  gained = λ x s. ⊎_elim (λ j. h.kept x (g.gained x j)) (λ j. h.gained x j) s;
}

-- from nothing, what is there has P
pub gained_to : {X : Type 0} (P : X → Type 0) (a b : List X) → a ≡ [] → Gains P a b → (x : X) → Contains b x → P x
gained_to P a b e g x h = ⊎_elim (λ k. absurd (Contains-nil x (subst (λ (xs : List _). Contains xs x) e k))) (λ p. p) (g.to x h)
