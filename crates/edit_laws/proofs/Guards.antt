-- Whether an edit touches a chain is decided.
use Rattle.std.specs.Prelude.{◌≡◌, ◌⊎◌, Bool, true, false, List, [], ◌∷◌, ◌++◌, Contains}
use Rattle.std.specs.Bool.{MatchBool}
use Rattle.std.specs.Ordering.{is_eq}
use Rattle.std.specs.declared.cmp.Ordering.{Ordering}
use Rattle.std.specs.declared.cmp.Ordering.TheVariants.{Less, Equal, Greater}
use Rattle.std.proofs.Common.{refl, sym, ap, subst, inl, inr}
use Rattle.std.proofs.lemmas.Cmp.{tied_itself}
use Rattle.std.proofs.lemmas.List.Elements.{All-nil}
use Rattle.sd_value.specs.Order.{bytes_cmp}
use Rattle.sd_value.specs.OrderLaws.{bytes_cmp-exact, bytes_cmp-total}
use Rattle.sd_value.specs.Members.{Contains-nil, Contains-cons_cases, Contains-here, Contains-there}
use Rattle.rpe.specs.Regex.{Regex, Word, label, any, empty, seq, alt, star}
use Rattle.rpe.specs.Language.{InLanguage}
use Rattle.graph_spec.specs.DataGraph.{Name}
use Rattle.query_spec.specs.declared.Variable.{Variable}
use Rattle.query_spec.specs.Query.{Operand, variable, constant, PathStep, arc_variable, expression, Condition, member, path, compare, one_of, kind, negation, Chain}
use Rattle.query_spec.specs.Mentions.{same_name}
use Rattle.site_spec.specs.Site.{SomeOf}
use Rattle.edit_spec.specs.declared.Edit.{Edit}
use Rattle.edit_spec.specs.declared.Edit.TheVariants.{Add, Remove, Enter, Leave}
use Rattle.edit_spec.specs.Touches.{IsOfLabel, IsOfCollection, IsVariable, HasEdges, FindsNode, FindsLabel, Finds, IsGuarded, MayStep, ReadsLabel, ReadsCollection, TouchesChain, by_value, by_edge, by_member}

abbrev pub Decided : Type 0 → Type 0
Decided P = P ⊎ (P → ⊥)

-- ---- names

tie : (o : Ordering) → is_eq o ≡ true → o ≡ Equal
tie Less e = cc
tie Equal e = refl
tie Greater e = cc

pub same_is : (x y : Name) → same_name x y ≡ true → x ≡ y
same_is x y e = bytes_cmp-exact x y (tie (bytes_cmp x y) e)

pub same_itself : (x : Name) → same_name x x ≡ true
same_itself x = ap is_eq (tied_itself bytes_cmp-total x)

pub by_test : (b : Bool) (P : Type 0) → (b ≡ true → P) → (b ≡ false → P) → P
by_test true P t f = t refl
by_test false P t f = f refl

pub name_decided : (x y : Name) → Decided (x ≡ y)
name_decided x y =
    by_test (same_name x y) (Decided (x ≡ y))
    (λ t. inl (same_is x y t))
    (λ f. inr (λ e. let s : same_name x y ≡ true = subst (λ (z : Name). same_name x z ≡ true) e (same_itself x) in cc))

-- ---- connectives

both : {P Q : Type 0} → Decided P → Decided Q → Decided (P × Q)
both (inl p) (inl q) = inl (p, q)
both (inl p) (inr n) = inr (λ h. n h.1)
both (inr n) q = inr (λ h. n h.0)

either : {P Q : Type 0} → Decided P → Decided Q → Decided (P ⊎ Q)
either (inl p) q = inl (inl p)
either (inr n) (inl q) = inl (inr q)
either (inr n) (inr m) = inr (λ h. elim h [ inl p ↦ n p | inr q ↦ m q ])

none : {P : Type 0} → Decided P → Decided (P → ⊥)
none (inl p) = inr (λ n. n p)
none (inr n) = inl n

nothing : Decided ⊥
nothing = inr (λ h. h)

module _ {X : Type 0} (P : X → Type 0) (decided : (x : X) → Decided (P x)) where
  pub some_decided : (xs : List X) → Decided (SomeOf P xs)
  some_decided [] = inr (λ h. Contains-nil h.item h.within)
  some_decided (x ∷ xs) = by (decided x) (some_decided xs)
    where
      by : Decided (P x) → Decided (SomeOf P xs) → Decided (SomeOf P (x ∷ xs))
      by (inl p) rest = inl (record { item = x; within = Contains-here x xs; holds = p })
      by (inr n) (inl s) = inl (record { item = s.item; within = Contains-there x xs s.item s.within; holds = s.holds })
      by (inr n) (inr m) = inr (λ h. elim (Contains-cons_cases x xs h.item h.within) [
        | inl e ↦ n (subst P (sym e) h.holds)
        | inr c ↦ m (record { item = h.item; within = c; holds = h.holds })
      ])

  pub each_decided : (xs : List X) → Decided ((x : X) → Contains xs x → P x)
  each_decided [] = inl (λ x c. absurd (Contains-nil x c))
  each_decided (x ∷ xs) = by (decided x) (each_decided xs)
    where
      by : Decided (P x) → Decided ((y : X) → Contains xs y → P y) → Decided ((y : X) → Contains (x ∷ xs) y → P y)
      by (inl p) (inl r) = inl (λ y c. elim (Contains-cons_cases x xs y c) [ inl e ↦ subst P e p | inr d ↦ r y d ])
      by (inl p) (inr n) = inr (λ h. n (λ y c. h y (Contains-there x xs y c)))
      by (inr n) rest = inr (λ h. n (h x (Contains-here x xs)))

-- ---- the empty word

front_empty : (front back : Word) → [] ≡ front ++ back → (front ≡ []) × (back ≡ [])
front_empty [] back e = (refl, sym e)
front_empty (l ∷ front) back e = let never : ⊥ = cc in absurd never

pub empty_decided : (r : Regex) → Decided (InLanguage r [])
empty_decided (label l) = inr (λ e. cc)
empty_decided any = inr (λ h. let e = h.1 in cc)
empty_decided empty = inl refl
empty_decided (seq r s) = by (empty_decided r) (empty_decided s)
  where
    by : Decided (InLanguage r []) → Decided (InLanguage s []) → Decided (InLanguage (seq r s) [])
    by (inl p) (inl q) = inl ([], [], p, q, refl)
    by (inl p) (inr n) = inr (λ (front, back, a, b, e). n (subst (InLanguage s) (front_empty front back e).1 b))
    by (inr n) q = inr (λ (front, back, a, b, e). n (subst (InLanguage r) (front_empty front back e).0 a))
empty_decided (alt r s) = either (empty_decided r) (empty_decided s)
empty_decided (star r) = inl ([], All-nil _, All-nil _, refl)

-- ---- guards

variable_decided : (t : Operand) (x : Name) → Decided (IsVariable t x)
variable_decided (variable y) x = name_decided y x
variable_decided (constant v) x = nothing

edges_decided : (s : PathStep) → Decided (HasEdges s)
edges_decided (arc_variable x) = inl tt
edges_decided (expression r) = none (empty_decided r)

finds_node_decided : (k : Condition) (x : Name) → Decided (FindsNode k x)
finds_node_decided (member c y) x = name_decided y x
finds_node_decided (path t s u) x = both (edges_decided s) (either (variable_decided t x) (variable_decided u x))
finds_node_decided (compare t o u) x = nothing
finds_node_decided (one_of t vs) x = nothing
finds_node_decided (kind k y) x = nothing
finds_node_decided (negation c) x = nothing

finds_label_decided : (k : Condition) (x : Name) → Decided (FindsLabel k x)
finds_label_decided (path t (arc_variable y) u) x = name_decided y x
finds_label_decided (path t (expression r) u) x = nothing
finds_label_decided (member c y) x = nothing
finds_label_decided (compare t o u) x = nothing
finds_label_decided (one_of t vs) x = nothing
finds_label_decided (kind k y) x = nothing
finds_label_decided (negation c) x = nothing

finds_decided : (v : Variable) (k : Condition) → Decided (Finds v k)
finds_decided v k = by v.arc
  where
    by : (arc : Bool) → Decided (MatchBool arc (FindsLabel k v.name) (FindsNode k v.name))
    by true = finds_label_decided k v.name
    by false = finds_node_decided k v.name

pub guarded_decided : (c : Chain) → Decided (IsGuarded c)
guarded_decided c = each_decided (λ v. SomeOf (Finds v) c.conditions)
    (λ v. some_decided (Finds v) (finds_decided v) c.conditions) c.variables

-- ---- what conditions read

may_step_decided : (r : Regex) (l : Name) → Decided (MayStep r l)
may_step_decided (label m) l = name_decided m l
may_step_decided any l = inl tt
may_step_decided empty l = nothing
may_step_decided (seq r s) l = either (may_step_decided r l) (may_step_decided s l)
may_step_decided (alt r s) l = either (may_step_decided r l) (may_step_decided s l)
may_step_decided (star r) l = may_step_decided r l

reads_label_decided : (l : Name) (k : Condition) → Decided (ReadsLabel l k)
reads_label_decided l (path t (arc_variable x) u) = inl tt
reads_label_decided l (path t (expression r) u) = may_step_decided r l
reads_label_decided l (negation c) = reads_label_decided l c
reads_label_decided l (member c x) = nothing
reads_label_decided l (compare t o u) = nothing
reads_label_decided l (one_of t vs) = nothing
reads_label_decided l (kind k x) = nothing

reads_collection_decided : (c : Name) (k : Condition) → Decided (ReadsCollection c k)
reads_collection_decided c (member d x) = name_decided d c
reads_collection_decided c (negation k) = reads_collection_decided c k
reads_collection_decided c (path t s u) = nothing
reads_collection_decided c (compare t o u) = nothing
reads_collection_decided c (one_of t vs) = nothing
reads_collection_decided c (kind k x) = nothing

-- ---- touching

by_label : (e : Edit) (l : Name) (c : Chain) → IsOfLabel e l → ((m : Name) → IsOfLabel e m → l ≡ m)
    → ((d : Name) → IsOfCollection e d → ⊥) → Decided (TouchesChain e c)
by_label e l c is only no_member = by (guarded_decided c)
    (some_decided (ReadsLabel l) (reads_label_decided l) c.conditions)
  where
    by : Decided (IsGuarded c) → Decided (SomeOf (ReadsLabel l) c.conditions) → Decided (TouchesChain e c)
    by (inr n) s = inl (by_value n)
    by (inl g) (inl s) = inl (by_edge l is s)
    by (inl g) (inr n) = inr (λ h. elim h [
      | by_value m ↦ m g
      | by_edge m at some ↦ n (subst (λ (x : Name). SomeOf (ReadsLabel x) c.conditions) (sym (only m at)) some)
      | by_member d at some ↦ no_member d at
    ])

by_collection : (e : Edit) (d : Name) (c : Chain) → IsOfCollection e d → ((m : Name) → IsOfCollection e m → d ≡ m)
    → ((l : Name) → IsOfLabel e l → ⊥) → Decided (TouchesChain e c)
by_collection e d c is only no_edge = by (guarded_decided c)
    (some_decided (ReadsCollection d) (reads_collection_decided d) c.conditions)
  where
    by : Decided (IsGuarded c) → Decided (SomeOf (ReadsCollection d) c.conditions) → Decided (TouchesChain e c)
    by (inr n) s = inl (by_value n)
    by (inl g) (inl s) = inl (by_member d is s)
    by (inl g) (inr n) = inr (λ h. elim h [
      | by_value m ↦ m g
      | by_edge l at some ↦ no_edge l at
      | by_member m at some ↦ n (subst (λ (x : Name). SomeOf (ReadsCollection x) c.conditions) (sym (only m at)) some)
    ])

pub touching_decided : (e : Edit) (c : Chain) → Decided (TouchesChain e c)
touching_decided (Add d) c = by_label (Add d) d.label c refl (λ m is. is) (λ x is. is)
touching_decided (Remove d) c = by_label (Remove d) d.label c refl (λ m is. is) (λ x is. is)
touching_decided (Enter k) c = by_collection (Enter k) k.collection c refl (λ m is. is) (λ x is. is)
touching_decided (Leave k) c = by_collection (Leave k) k.collection c refl (λ m is. is) (λ x is. is)

-- what isn't touched is guarded
pub guarded : (e : Edit) (c : Chain) → (TouchesChain e c → ⊥) → IsGuarded c
guarded e c never = elim (guarded_decided c) [ inl g ↦ g | inr n ↦ absurd (never (by_value n)) ]
