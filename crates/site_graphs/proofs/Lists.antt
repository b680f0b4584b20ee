-- Lists of all that has a property, in any order.
use Rattle.std.proofs.Common.{◌≡◌, ◌⊎◌, List, [], ◌∷◌, ◌++◌, inl, inr, ⊎_elim, refl, subst}
use Rattle.std.specs.Prelude.{Contains}
use Rattle.std.specs.List.{flat_map}
use Rattle.std.proofs.lemmas.List.Elements.{Contains-append_cases, Contains-append_left, Contains-append_right}
use Rattle.sd_value.specs.Members.{Contains-nil, Contains-cons_cases, Contains-here}
use Rattle.sd_value.specs.Members.{Contains-flat_map, Contains-flat_mapped}
use Rattle.site_graphs.proofs.Decide.{Dec, yes, no}

-- all that has P
pub record AllOf {X : Type 0} (P : X → Type 0) : Type 0 where
  pub items : List X
  pub sound : (x : X) → Contains items x → P x
  pub complete : (x : X) → P x → Contains items x

pub all_none : {X : Type 0} (P : X → Type 0) → ((x : X) → P x → ⊥) → AllOf P
all_none P none = record {
  items = [];
  sound = λ x h. absurd (Contains-nil x h);
  complete = λ x p. absurd (none x p);
}

-- just this one
pub all_one : {X : Type 0} (a : X) (P : X → Type 0) → P a → ((x : X) → P x → a ≡ x) → AllOf P
all_one a P p only = record {
  items = a ∷ [];
  sound = λ x h. ⊎_elim (λ e. subst P e p) (λ none. absurd (Contains-nil x none)) (Contains-cons_cases a [] x h);
  complete = λ x q. subst (Contains (a ∷ [])) (only x q) (Contains-here a []);
}

pub all_in : {X : Type 0} (xs : List X) → AllOf (Contains xs)
all_in xs = record { items = xs; sound = λ x h. h; complete = λ x h. h }

-- the same, said in another way
pub all_as : {X : Type 0} (P Q : X → Type 0) → ((x : X) → P x → Q x) → ((x : X) → Q x → P x) → AllOf P → AllOf Q
all_as P Q to from all = record {
  items = all.items;
  sound = λ x h. to x (all.sound x h);
  complete = λ x q. all.complete x (from x q);
}

pub all_either : {X : Type 0} (P Q : X → Type 0) → AllOf P → AllOf Q → AllOf (λ x. P x ⊎ Q x)
all_either P Q p q = record {
  items = p.items ++ q.items;
  sound = λ x h. ⊎_elim (λ k. inl (p.sound x k)) (λ k. inr (q.sound x k)) (Contains-append_cases p.items q.items x h);
  complete = λ x h. ⊎_elim (λ k. Contains-append_left p.items q.items x (p.complete x k))
      (λ k. Contains-append_right p.items q.items x (q.complete x k)) h;
}

-- what comes of each
pub all_from : {X Y : Type 0} (P : X → Type 0) (Q : X → Y → Type 0) → AllOf P → ((x : X) → AllOf (Q x))
    → AllOf (λ y. (x : X) × P x × Q x y)
all_from {X} {Y} P Q all each = record {
  items = flat_map (λ x. (each x).items) all.items;
  sound = λ y h.
      let f = Contains-flat_map (λ x. (each x).items) all.items y h in
      (f.0, all.sound f.0 f.1, (each f.0).sound y f.2);
  complete = λ y h. Contains-flat_mapped (λ x. (each x).items) all.items h.0 y (all.complete h.0 h.1)
      ((each h.0).complete y h.2);
}

-- those that have Q too
pub all_kept : {X : Type 0} (P Q : X → Type 0) → ((x : X) → Dec (Q x)) → AllOf P → AllOf (λ x. P x × Q x)
all_kept {X} P Q dec all = all_as (λ y. (x : X) × P x × (Q x × (x ≡ y))) (λ x. P x × Q x)
    (λ y h. (subst P h.2.1 h.1, subst Q h.2.1 h.2.0)) (λ y h. (y, h.0, (h.1, refl)))
    (all_from P (λ x y. Q x × (x ≡ y)) all (λ x. by x (dec x)))
  where
    by : (x : X) → Dec (Q x) → AllOf (λ (y : X). Q x × (x ≡ y))
    by x (yes q) = all_one x (λ (y : X). Q x × (x ≡ y)) (q, refl) (λ y h. h.1)
    by x (no n) = all_none (λ (y : X). Q x × (x ≡ y)) (λ y h. n h.0)
