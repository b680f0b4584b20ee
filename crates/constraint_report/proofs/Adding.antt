-- Lists that gain what has P.
use Rattle.std.proofs.Common.{◌≡◌, ◌⊎◌, ℕ, ◌+◌, ◌<◌, ◌≤◌, Bool, true, false, cond, List, [], ◌∷◌, ◌++◌, length, get_or, take, inl, inr, refl, sym, ap, ◌∙◌, subst, append_assoc}
use Rattle.std.specs.Prelude.{Contains, if◌then◌else◌}
use Rattle.std.specs.List.{list_any}
use Rattle.std.proofs.lemmas.List.{take_more, take_all, append-nil}
use Rattle.std.proofs.lemmas.List.Elements.{Contains-append_left, Contains-append_cases, Contains-push_cases, Contains-push}
use Rattle.sd_value.specs.Members.{Contains-nil, Contains-cons_cases}
use Rattle.indexmap.specs.IndexSet.{insert_key}
use Rattle.indexmap.proofs.CallerLemmas.{Contains-insert_key}
use Rattle.site_spec.specs.Site.{SomeOf}
use Rattle.constraint_report.specs.Links.{Adds}

pub adds_kept : {X : Type 0} (P : X → Type 0) (old new : List X) → Adds P old new → (x : X) → Contains old x → Contains new x
adds_kept P old new g x h = subst (λ (xs : List _). Contains xs x) (sym g.is) (Contains-append_left old g.more x h)

pub adds_none : {X : Type 0} (P : X → Type 0) (xs : List X) → ((x : X) → P x → ⊥) → Adds P xs xs
adds_none P xs none = record {
  more = [];
  is = sym (append-nil xs);
  only = λ x h. absurd (Contains-nil x h);
  all = λ x p. absurd (none x p);
}

pub adds_as : {X : Type 0} (P Q : X → Type 0) (old new : List X) → ((x : X) → P x → Q x) → ((x : X) → Q x → P x) → Adds P old new → Adds Q old new
adds_as P Q old new to from g = record {
  more = g.more;
  is = g.is;
  only = λ x h. to x (g.only x h);
  all = λ x q. g.all x (from x q);
}

pub adds_two : {X : Type 0} (P Q R : X → Type 0) (a b c : List X) → ((x : X) → P x → R x) → ((x : X) → Q x → R x) → ((x : X) → R x → P x ⊎ Q x) → Adds P a b → Adds Q b c → Adds R a c
adds_two P Q R a b c p q r g h = record {
  more = g.more ++ h.more;
  is = h.is ∙ ap (λ (z : List _). z ++ h.more) g.is ∙ append_assoc a g.more h.more;
  only = λ x i. elim (Contains-append_cases g.more h.more x i) [ inl k ↦ p x (g.only x k) | inr k ↦ q x (h.only x k) ];
  all = λ x i. elim (r x i) [ inl k ↦ adds_kept Q b c h x (g.all x k) | inr k ↦ h.all x k ];
}

-- a set after an item was put in
pub adds_inserted : {K : Type 0} (E : K → K → Bool) (exact : (x y : K) → E x y ≡ true → x ≡ y) (ks : List K) (k : K) → Adds (λ x. k ≡ x) ks (insert_key E ks k)
adds_inserted E exact ks k = by (list_any (E k) ks) (Contains-insert_key E exact ks k)
  where
    by : (b : Bool) → Contains (if b then ks else ks ++ k ∷ []) k → Adds (λ x. k ≡ x) ks (if b then ks else ks ++ k ∷ [])
    by true h = record {
      more = [];
      is = sym (append-nil ks);
      only = λ x i. absurd (Contains-nil x i);
      all = λ x e. subst (Contains ks) e h;
    }
    by false h = record {
      more = k ∷ [];
      is = refl;
      only = λ x i. elim (Contains-cons_cases k [] x i) [ inl e ↦ e | inr n ↦ absurd (Contains-nil x n) ];
      all = λ x e. subst (Contains (ks ++ k ∷ [])) e h;
    }

-- ---- one giver after another

some_last : {T : Type 0} (P : T → Type 0) (xs : List T) (t : T) → SomeOf P (xs ++ t ∷ []) → SomeOf P xs ⊎ P t
some_last P xs t s = elim (Contains-push_cases xs t s.item s.within) [
  | inl k ↦ inl record { item = s.item; within = k; holds = s.holds }
  | inr e ↦ inr (subst P (sym e) s.holds)
]

pub adds_nil : {X T : Type 0} (Q : T → X → Type 0) (a : List X) → Adds (λ x. SomeOf (λ z. Q z x) []) a a
adds_nil Q a = adds_none (λ x. SomeOf (λ z. Q z x) []) a (λ x s. Contains-nil s.item s.within)

pub adds_next : {X T : Type 0} (Q : T → X → Type 0) (from : List T) (i : ℕ) (t : T) (a b c : List X) → i < length from → t ≡ get_or from i t
    → Adds (λ x. SomeOf (λ z. Q z x) (take i from)) a b → Adds (Q t) b c → Adds (λ x. SomeOf (λ z. Q z x) (take (i + 1) from)) a c
adds_next Q from i t a b c l is g h =
    subst (λ f. Adds (λ x. SomeOf (λ z. Q z x) f) a c) (sym (take_more from i t l ∙ ap (λ z. take i from ++ z ∷ []) (sym is)))
    (adds_two (λ x. SomeOf (λ z. Q z x) (take i from)) (Q t) (λ x. SomeOf (λ z. Q z x) (take i from ++ t ∷ [])) a b c
    (λ x s. record { item = s.item; within = Contains-append_left (take i from) (t ∷ []) s.item s.within; holds = s.holds })
    (λ x q. record { item = t; within = Contains-push (take i from) t; holds = q })
    (λ x s. some_last (λ z. Q z x) (take i from) t s) g h)

pub adds_end : {X T : Type 0} (Q : T → X → Type 0) (from : List T) (i : ℕ) (a b : List X) → length from ≤ i → Adds (λ x. SomeOf (λ z. Q z x) (take i from)) a b → Adds (λ x. SomeOf (λ z. Q z x) from) a b
adds_end Q from i a b l g = subst (λ f. Adds (λ x. SomeOf (λ z. Q z x) f) a b) (take_all i from l) g
