-- What is told of kinds, one list after another.
use Rattle.std.proofs.Common.{◌≡◌, ◌≢◌, ◌⊎◌, refl, sym, ap, subst, ◌∙◌, inl, inr, Bool, true, false, ◌&&◌, ◌||◌, not, List, [], ◌∷◌, if◌then◌else◌, Contains}
use Rattle.std.specs.List.{list_all}
use Rattle.sd_value.specs.Members.{IsOneOf, Contains-nil, Contains-cons_cases, Contains-here, Contains-there}
use Rattle.ddl_text.specs.declared.tree.Kind.{Kind}
use Rattle.ddl_text.specs.declared.tree.Kind.TheVariants as kinds
use Rattle.sd_ddl.specs.declared.kinds.StatedKinds.{StatedKinds}
use Rattle.sd_ddl.specs.declared.kinds.StatedKinds.TheVariants.{Nothing, One, Several}
use Rattle.sd_ddl.specs.Kinds.{Name, same_kind, told, differs}
use Rattle.sd_ddl.specs.Tables.{both, is_several, tell}

pub same_kind-is : (k j : Kind) → same_kind k j ≡ true → k ≡ j
same_kind-is kinds.Text kinds.Text h = refl
same_kind-is kinds.Text kinds.Url h = cc
same_kind-is kinds.Text kinds.File h = cc
same_kind-is kinds.Url kinds.Text h = cc
same_kind-is kinds.Url kinds.Url h = refl
same_kind-is kinds.Url kinds.File h = cc
same_kind-is kinds.File kinds.Text h = cc
same_kind-is kinds.File kinds.Url h = cc
same_kind-is kinds.File kinds.File h = refl

pub same_kind-self : (k : Kind) → same_kind k k ≡ true
same_kind-self kinds.Text = refl
same_kind-self kinds.Url = refl
same_kind-self kinds.File = refl

same_kind-turned : (k j : Kind) → same_kind k j ≡ same_kind j k
same_kind-turned kinds.Text kinds.Text = refl
same_kind-turned kinds.Text kinds.Url = refl
same_kind-turned kinds.Text kinds.File = refl
same_kind-turned kinds.Url kinds.Text = refl
same_kind-turned kinds.Url kinds.Url = refl
same_kind-turned kinds.Url kinds.File = refl
same_kind-turned kinds.File kinds.Text = refl
same_kind-turned kinds.File kinds.Url = refl
same_kind-turned kinds.File kinds.File = refl

pub both-nothing : (t : StatedKinds) → both t Nothing ≡ t
both-nothing Nothing = refl
both-nothing (One k) = refl
both-nothing Several = refl

none_differs : (j k : Kind) (ks : List Kind) → same_kind j k ≡ true → list_all (same_kind j) ks ≡ true → differs ks k ≡ false
none_differs j k [] e h = refl
none_differs j k (i ∷ ks) e h = by (none_differs j k ks e) (same_kind j i) refl h
  where
    by : (list_all (same_kind j) ks ≡ true → differs ks k ≡ false) → (b : Bool) → same_kind j i ≡ b → (b && list_all (same_kind j) ks) ≡ true → (not (same_kind i k) || differs ks k) ≡ false
    by rest true is h = subst (λ x. (not (same_kind x k) || differs ks k) ≡ false) (same_kind-is j i is) (ap (λ b. not b || differs ks k) e ∙ rest h)
    by rest false is h = cc

some_differs : (j k : Kind) (ks : List Kind) → same_kind j k ≡ true → list_all (same_kind j) ks ≡ false → differs ks k ≡ true
some_differs j k [] e h = cc
some_differs j k (i ∷ ks) e h = by (some_differs j k ks e) (same_kind j i) refl h
  where
    by : (list_all (same_kind j) ks ≡ false → differs ks k ≡ true) → (b : Bool) → same_kind j i ≡ b → (b && list_all (same_kind j) ks) ≡ false → (not (same_kind i k) || differs ks k) ≡ true
    by rest true is h = subst (λ x. (not (same_kind x k) || differs ks k) ≡ true) (same_kind-is j i is) (ap (λ b. not b || differs ks k) e ∙ rest h)
    by rest false is h = ap (λ b. not b || differs ks k) (subst (λ x. same_kind i x ≡ false) (same_kind-is j k e) (same_kind-turned i j ∙ is))

-- a kind more makes several exactly where it differs, or where there were several
pub several-differs : (ks : List Kind) (k : Kind) → is_several (both (told ks) (One k)) ≡ differs ks k
several-differs [] k = refl
several-differs (j ∷ ks) k = by (list_all (same_kind j) ks) (same_kind j k) refl refl
  where
    by : (all here : Bool) → list_all (same_kind j) ks ≡ all → same_kind j k ≡ here → is_several (both (if all then One j else Several) (One k)) ≡ (not here || differs ks k)
    by true true a h = ap (λ b. is_several (if b then One j else Several)) h ∙ sym (none_differs j k ks h a)
    by true false a h = ap (λ b. is_several (if b then One j else Several)) h
    by false true a h = sym (some_differs j k ks h a)
    by false false a h = refl

-- which kinds have the property: none, this one alone, or several
abbrev pub Tells : (Kind → Type 0) → StatedKinds → Type 0
Tells P Nothing = (k : Kind) → P k → ⊥
Tells P (One k) = P k × ((j : Kind) → P j → j ≡ k)
Tells P Several = (j : Kind) × (k : Kind) × P j × P k × (j ≢ k)

pub Tells-as : (P Q : Kind → Type 0) (t : StatedKinds) → ((k : Kind) → P k → Q k) → ((k : Kind) → Q k → P k) → Tells P t → Tells Q t
Tells-as P Q Nothing to from h = λ k q. h k (from k q)
Tells-as P Q (One k) to from h = (to k h.0, λ j q. h.1 j (from j q))
Tells-as P Q Several to from h = (h.0, h.1, to h.0 h.2, to h.1 h.3, h.4)

-- only one thing is told
pub Tells-one : (P : Kind → Type 0) (s t : StatedKinds) → Tells P s → Tells P t → s ≡ t
Tells-one P Nothing Nothing h g = refl
Tells-one P Nothing (One k) h g = absurd (h k g.0)
Tells-one P Nothing Several h g = absurd (h g.0 g.2)
Tells-one P (One k) Nothing h g = absurd (g k h.0)
Tells-one P (One k) (One j) h g = ap One (g.1 k h.0)
Tells-one P (One k) Several h g = absurd (g.4 (h.1 g.0 g.2 ∙ sym (h.1 g.1 g.3)))
Tells-one P Several Nothing h g = absurd (g h.0 h.2)
Tells-one P Several (One k) h g = absurd (h.4 (g.1 h.0 h.2 ∙ sym (g.1 h.1 h.3)))
Tells-one P Several Several h g = refl

pub Tells-both : (P Q : Kind → Type 0) (s t : StatedKinds) → Tells P s → Tells Q t → Tells (λ k. P k ⊎ Q k) (both s t)
Tells-both P Q Nothing Nothing h g = λ k o. elim o [ inl p ↦ h k p | inr q ↦ g k q ]
Tells-both P Q Nothing (One j) h g = (inr g.0, λ k o. elim o [ inl p ↦ absurd (h k p) | inr q ↦ g.1 k q ])
Tells-both P Q Nothing Several h g = (g.0, g.1, inr g.2, inr g.3, g.4)
Tells-both P Q (One k) Nothing h g = (inl h.0, λ j o. elim o [ inl p ↦ h.1 j p | inr q ↦ absurd (g j q) ])
Tells-both P Q (One k) (One j) h g = by (same_kind k j) refl
  where
    by : (b : Bool) → same_kind k j ≡ b → Tells (λ i. P i ⊎ Q i) (if b then One k else Several)
    by true e = (inl h.0, λ i o. elim o [ inl p ↦ h.1 i p | inr q ↦ g.1 i q ∙ sym (same_kind-is k j e) ])
    by false e = (k, j, inl h.0, inr g.0, λ same. let self : same_kind k j ≡ true = subst (λ x. same_kind k x ≡ true) same (same_kind-self k) in cc)
Tells-both P Q (One k) Several h g = (g.0, g.1, inr g.2, inr g.3, g.4)
Tells-both P Q Several t h g = (h.0, h.1, inl h.2, inl h.3, h.4)

all_same : (k : Kind) (js : List Kind) → list_all (same_kind k) js ≡ true → (j : Kind) → Contains js j → j ≡ k
all_same k [] h j at = absurd (Contains-nil j at)
all_same k (i ∷ js) h j at = go (λ g. all_same k js g j) (same_kind k i) refl h (Contains-cons_cases i js j at)
  where
    go : (list_all (same_kind k) js ≡ true → Contains js j → j ≡ k) → (b : Bool) → same_kind k i ≡ b → (b && list_all (same_kind k) js) ≡ true → (i ≡ j) ⊎ Contains js j → j ≡ k
    go later true e h (inl same) = sym same ∙ sym (same_kind-is k i e)
    go later true e h (inr rest) = later h rest
    go later false e h o = cc

another : (k : Kind) (js : List Kind) → list_all (same_kind k) js ≡ false → (j : Kind) × Contains js j × (same_kind k j ≡ false)
another k [] h = absurd cc
another k (i ∷ js) h = go (another k js) (same_kind k i) refl h
  where
    go : (list_all (same_kind k) js ≡ false → (j : Kind) × Contains js j × (same_kind k j ≡ false)) → (b : Bool) → same_kind k i ≡ b → (b && list_all (same_kind k) js) ≡ false
        → (j : Kind) × Contains (i ∷ js) j × (same_kind k j ≡ false)
    go later true e h = let found = later h in (found.0, Contains-there i js found.0 found.1, found.2)
    go later false e h = (i, Contains-here i js, e)

-- what a list of kinds tells
pub Tells-told : (ks : List Kind) → Tells (Contains ks) (told ks)
Tells-told [] = λ k h. Contains-nil k h
Tells-told (k ∷ ks) = by (list_all (same_kind k) ks) refl
  where
    by : (b : Bool) → list_all (same_kind k) ks ≡ b → Tells (Contains (k ∷ ks)) (if b then One k else Several)
    by true e = (Contains-here k ks, λ j at. elim (Contains-cons_cases k ks j at) [ inl same ↦ sym same | inr rest ↦ all_same k ks e j rest ])
    by false e =
        let found = another k ks e in
        (k, found.0, Contains-here k ks, Contains-there k ks found.0 found.1, λ same. let self : same_kind k found.0 ≡ true = subst (λ x. same_kind k x ≡ true) same (same_kind-self k) in absurd cc)

-- what is told of names, one after another
pub Tells-tell : (Q : Name → Kind → Type 0) (f : Name → StatedKinds) → ((n : Name) → Tells (Q n) (f n)) → (P : Kind → Type 0) (t : StatedKinds) → Tells P t
    → (ns : List Name) → Tells (λ k. P k ⊎ ((n : Name) × IsOneOf ns n × Q n k)) (tell f t ns)
Tells-tell Q f each P t h [] = Tells-as P (λ k. P k ⊎ ((n : Name) × IsOneOf [] n × Q n k)) t (λ k p. inl p) (λ k o. elim o [ inl p ↦ p | inr q ↦ absurd q.1 ]) h
Tells-tell Q f each P t h (m ∷ ns) =
    Tells-as (λ k. (P k ⊎ Q m k) ⊎ ((n : Name) × IsOneOf ns n × Q n k)) (λ k. P k ⊎ ((n : Name) × IsOneOf (m ∷ ns) n × Q n k)) (tell f (both t (f m)) ns)
    (λ k o. elim o [ inl first ↦ elim first [ inl p ↦ inl p | inr q ↦ inr (m, inl refl, q) ] | inr rest ↦ inr (rest.0, inr rest.1, rest.2) ])
    (λ k o. elim o [
      | inl p ↦ inl (inl p)
      | inr found ↦ elim found.1 [ inl same ↦ inl (inr (subst (λ n. Q n k) (sym same) found.2)) | inr rest ↦ inr (found.0, rest, found.2) ]
    ])
    (Tells-tell Q f each (λ k. P k ⊎ Q m k) (both t (f m)) (Tells-both P (Q m) t (f m) h (each m)) ns)
