-- The tests decide what they test.
use Rattle.std.specs.Prelude.{◌≡◌, ◌⊎◌, ◌↔◌, Bool, true, false, not, ◌&&◌, ◌||◌, if◌then◌else◌, IsTrue, List, [], ◌∷◌, ◌++◌, Contains}
use Rattle.std.specs.Bool.{MatchBool}
use Rattle.std.specs.List.{list_any, list_all}
use Rattle.std.proofs.Common.{refl, sym, subst, inl, inr}
use Rattle.std.proofs.lemmas.List.Elements.{All-nil}
use Rattle.sd_value.specs.Members.{Contains-nil, Contains-cons_cases, Contains-here, Contains-there}
use Rattle.rpe.specs.Regex.{Regex, Word, label, any, empty, seq, alt, star}
use Rattle.rpe.specs.Language.{InLanguage}
use Rattle.graph_spec.specs.DataGraph.{Name}
use Rattle.query_spec.specs.declared.Variable.{Variable}
use Rattle.query_spec.specs.Query.{Operand, variable, constant, PathStep, arc_variable, expression, Condition, member, path, compare, one_of, kind, negation, Chain}
use Rattle.query_spec.specs.Mentions.{same_name}
use Rattle.site_spec.specs.Site.{SomeOf}
use Rattle.edit_spec.specs.declared.Edit.{Edit}
use Rattle.edit_spec.specs.declared.Edit.TheVariants.{Add, Remove, Enter, Leave}
use Rattle.edit_touches.specs.Tests as tests
use Rattle.edit_spec.specs.Touches.{IsOfLabel, IsOfCollection, IsVariable, HasEdges, FindsNode, FindsLabel, Finds, IsGuarded, MayStep, ReadsLabel, ReadsCollection, TouchesChain, by_value, by_edge, by_member}
use Rattle.edit_laws.proofs.Guards.{same_is, same_itself}
use Rattle.edit_touches.specs.Tests.{has_empty, may_step, is_variable, has_edges, finds_node, is_arc, finds_label, finds, is_guarded, may_read, reads_label, reads_collection, is_concerned, is_of_label, is_of_collection}

abbrev pub Says : Bool → Type 0 → Type 0
Says b P = IsTrue b ↔ P

pub same : (x y : Name) → Says (same_name x y) (x ≡ y)
same x y = (same_is x y, λ e. subst (λ (z : Name). same_name x z ≡ true) e (same_itself x))

pub never : Says false ⊥
never = (λ e. cc, λ h. absurd h)

pub always : {P : Type 0} → P → Says true P
always p = (λ e. p, λ h. refl)

pub not_so : (b : Bool) (P : Type 0) → Says b P → Says (not b) (P → ⊥)
not_so true P h = (λ e. cc, λ n. absurd (n (h.0 refl)))
not_so false P h = (λ e p. let t = h.1 p in cc, λ n. refl)

pub both : (a b : Bool) (P Q : Type 0) → Says a P → Says b Q → Says (a && b) (P × Q)
both true b P Q h k = (λ e. (h.0 refl, k.0 e), λ x. k.1 x.1)
both false b P Q h k = (λ e. cc, λ x. h.1 x.0)

pub either : (a b : Bool) (P Q : Type 0) → Says a P → Says b Q → Says (a || b) (P ⊎ Q)
either true b P Q h k = (λ e. inl (h.0 refl), λ x. refl)
either false b P Q h k = (λ e. inr (k.0 e), λ x. elim x [ inl p ↦ (let t = h.1 p in cc) | inr q ↦ k.1 q ])

some_cons : {X : Type 0} (P : X → Type 0) (x : X) (xs : List X) → SomeOf P (x ∷ xs) ↔ (P x ⊎ SomeOf P xs)
some_cons P x xs = (
  λ h. elim (Contains-cons_cases x xs h.item h.within) [
    | inl e ↦ inl (subst P (sym e) h.holds)
    | inr c ↦ inr
        (record { item = h.item; within = c; holds = h.holds })
  ],
  λ h. elim h [
    | inl p ↦ record { item = x; within = Contains-here x xs; holds = p }
    | inr s ↦ record
        { item = s.item; within = Contains-there x xs s.item s.within; holds = s.holds }
  ],
)

pub some : {X : Type 0} (test : X → Bool) (P : X → Type 0) → ((x : X) → Says (test x) (P x)) → (xs : List X)
    → Says (list_any test xs) (SomeOf P xs)
some test P says [] = (λ e. cc, λ h. absurd (Contains-nil h.item h.within))
some test P says (x ∷ xs) =
    let first = either (test x) (list_any test xs) (P x) (SomeOf P xs) (says x) (some test P says xs) in
    let cons = some_cons P x xs in
    (λ e. cons.1 (first.0 e), λ h. first.1 (cons.0 h))

pub each : {X : Type 0} (test : X → Bool) (P : X → Type 0) → ((x : X) → Says (test x) (P x)) → (xs : List X)
    → Says (list_all test xs) ((x : X) → Contains xs x → P x)
each test P says [] = (λ e x c. absurd (Contains-nil x c), λ h. refl)
each test P says (x ∷ xs) =
    let first = both (test x) (list_all test xs) (P x) ((y : _) → Contains xs y → P y) (says x) (each test P says xs) in (
      λ e y c. (let h = first.0 e in elim (Contains-cons_cases x xs y c) [ inl is ↦ subst P is h.0 | inr d ↦ h.1 y d ]),
      λ h. first.1 (h x (Contains-here x xs), λ y c. h y (Contains-there x xs y c)),
    )

-- ---- expressions

front_empty : (front back : Word) → [] ≡ front ++ back → (front ≡ []) × (back ≡ [])
front_empty [] back e = (refl, sym e)
front_empty (l ∷ front) back e = let impossible : ⊥ = cc in absurd impossible

pub empty_says : (r : Regex) → Says (has_empty r) (InLanguage r [])
empty_says (label l) = (λ e. cc, λ e. cc)
empty_says any = (λ e. cc, λ h. let e = h.1 in cc)
empty_says empty = always refl
empty_says (seq r s) =
    let h = both (has_empty r) (has_empty s) (InLanguage r []) (InLanguage s []) (empty_says r) (empty_says s) in (
      λ e. (let p = h.0 e in ([], [], p.0, p.1, refl)),
      λ (front, back, a, b, e).
          (let ends = front_empty front back e in h.1 (subst (InLanguage r) ends.0 a, subst (InLanguage s) ends.1 b)),
    )
empty_says (alt r s) = either (has_empty r) (has_empty s) (InLanguage r []) (InLanguage s []) (empty_says r)
    (empty_says s)
empty_says (star r) = always ([], All-nil _, All-nil _, refl)

pub step_says : (l : Name) (r : Regex) → Says (may_step l r) (MayStep r l)
step_says l (label m) = same m l
step_says l any = always tt
step_says l empty = never
step_says l (seq r s) = either (may_step l r) (may_step l s) (MayStep r l) (MayStep s l) (step_says l r) (step_says l s)
step_says l (alt r s) = either (may_step l r) (may_step l s) (MayStep r l) (MayStep s l) (step_says l r) (step_says l s)
step_says l (star r) = step_says l r

-- ---- conditions

variable_says : (x : Name) (t : Operand) → Says (is_variable x t) (IsVariable t x)
variable_says x (variable y) = same y x
variable_says x (constant v) = never

edges_says : (s : PathStep) → Says (has_edges s) (HasEdges s)
edges_says (arc_variable x) = always tt
edges_says (expression r) = not_so (has_empty r) (InLanguage r []) (empty_says r)

finds_node_says : (x : Name) (k : Condition) → Says (finds_node x k) (FindsNode k x)
finds_node_says x (member c y) = same y x
finds_node_says x (path t s u) =
    both (has_edges s) (is_variable x t || is_variable x u) (HasEdges s) (IsVariable t x ⊎ IsVariable u x)
    (edges_says s)
    (either (is_variable x t) (is_variable x u) (IsVariable t x) (IsVariable u x) (variable_says x t)
    (variable_says x u))
finds_node_says x (compare t o u) = never
finds_node_says x (one_of t vs) = never
finds_node_says x (kind k y) = never
finds_node_says x (negation c) = never

finds_label_says : (x : Name) (k : Condition) → Says (finds_label x k) (FindsLabel k x)
finds_label_says x (path t (arc_variable y) u) = same y x
finds_label_says x (path t (expression r) u) = never
finds_label_says x (member c y) = never
finds_label_says x (compare t o u) = never
finds_label_says x (one_of t vs) = never
finds_label_says x (kind k y) = never
finds_label_says x (negation c) = never

finds_says : (v : Variable) (k : Condition) → Says (finds v k) (Finds v k)
finds_says v k = by v.arc
  where
    by : (arc : Bool) → Says (if arc then finds_label v.name k else finds_node v.name k)
        (MatchBool arc (FindsLabel k v.name) (FindsNode k v.name))
    by true = finds_label_says v.name k
    by false = finds_node_says v.name k

pub guarded_says : (c : Chain) → Says (is_guarded c.variables c.conditions) (IsGuarded c)
guarded_says c =
    each (λ v. list_any (finds v) c.conditions) (λ v. SomeOf (Finds v) c.conditions)
    (λ v. some (finds v) (Finds v) (finds_says v) c.conditions) c.variables

reads_label_says : (l : Name) (k : Condition) → Says (reads_label l k) (ReadsLabel l k)
reads_label_says l (path t (arc_variable x) u) = always tt
reads_label_says l (path t (expression r) u) = step_says l r
reads_label_says l (negation c) = reads_label_says l c
reads_label_says l (member c x) = never
reads_label_says l (compare t o u) = never
reads_label_says l (one_of t vs) = never
reads_label_says l (kind k x) = never

reads_collection_says : (c : Name) (k : Condition) → Says (reads_collection c k) (ReadsCollection c k)
reads_collection_says c (member d x) = same d c
reads_collection_says c (negation k) = reads_collection_says c k
reads_collection_says c (path t s u) = never
reads_collection_says c (compare t o u) = never
reads_collection_says c (one_of t vs) = never
reads_collection_says c (kind k x) = never

-- ---- chains

edge_chain : (e : Edit) (l : Name) (c : Chain) → IsOfLabel e l → ((m : Name) → IsOfLabel e m → l ≡ m)
    → ((d : Name) → IsOfCollection e d → ⊥)
    → Says (not (is_guarded c.variables c.conditions) || list_any (reads_label l) c.conditions) (TouchesChain e c)
edge_chain e l c is only no_member =
    let h = either (not (is_guarded c.variables c.conditions)) (list_any (reads_label l) c.conditions) (IsGuarded c → ⊥)
    (SomeOf (ReadsLabel l) c.conditions)
    (not_so (is_guarded c.variables c.conditions) (IsGuarded c) (guarded_says c))
    (some (reads_label l) (ReadsLabel l) (reads_label_says l) c.conditions) in (
      λ t. elim (h.0 t) [ inl n ↦ by_value n | inr s ↦ by_edge l is s ],
      λ x. h.1 (elim x [
        | by_value n ↦ inl n
        | by_edge m at s ↦ inr (subst (λ (z : Name). SomeOf (ReadsLabel z) c.conditions) (sym (only m at)) s)
        | by_member d at s ↦ absurd (no_member d at)
      ]),
    )

member_chain : (e : Edit) (d : Name) (c : Chain) → IsOfCollection e d → ((m : Name) → IsOfCollection e m → d ≡ m)
    → ((l : Name) → IsOfLabel e l → ⊥)
    → Says (not (is_guarded c.variables c.conditions) || list_any (reads_collection d) c.conditions) (TouchesChain e c)
member_chain e d c is only no_edge =
    let h = either (not (is_guarded c.variables c.conditions)) (list_any (reads_collection d) c.conditions)
    (IsGuarded c → ⊥) (SomeOf (ReadsCollection d) c.conditions)
    (not_so (is_guarded c.variables c.conditions) (IsGuarded c) (guarded_says c))
    (some (reads_collection d) (ReadsCollection d) (reads_collection_says d) c.conditions) in (
      λ t. elim (h.0 t) [ inl n ↦ by_value n | inr s ↦ by_member d is s ],
      λ x. h.1 (elim x [
        | by_value n ↦ inl n
        | by_edge l at s ↦ absurd (no_edge l at)
        | by_member m at s ↦ inr (subst (λ (z : Name). SomeOf (ReadsCollection z) c.conditions) (sym (only m at)) s)
      ]),
    )

pub chain_says : (e : Edit) (c : Chain) → Says (tests.touches e c.variables c.conditions) (TouchesChain e c)
chain_says (Add d) c = edge_chain (Add d) d.label c refl (λ m is. is) (λ x is. is)
chain_says (Remove d) c = edge_chain (Remove d) d.label c refl (λ m is. is) (λ x is. is)
chain_says (Enter k) c = member_chain (Enter k) k.collection c refl (λ m is. is) (λ x is. is)
chain_says (Leave k) c = member_chain (Leave k) k.collection c refl (λ m is. is) (λ x is. is)

-- ---- labels and collections of a footprint

pub label_says : (e : Edit) (l : Name) → Says (is_of_label e l) (IsOfLabel e l)
label_says (Add d) l = same d.label l
label_says (Remove d) l = same d.label l
label_says (Enter m) l = never
label_says (Leave m) l = never

pub collection_says : (e : Edit) (c : Name) → Says (is_of_collection e c) (IsOfCollection e c)
collection_says (Add d) c = never
collection_says (Remove d) c = never
collection_says (Enter m) c = same m.collection c
collection_says (Leave m) c = same m.collection c
