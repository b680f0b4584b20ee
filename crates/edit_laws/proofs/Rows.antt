-- An edit that doesn't touch a chain leaves its rows.
use Rattle.std.specs.Prelude.{◌≡◌, ◌≢◌, ◌⊎◌, ◌↔◌, ℕ, Bool, true, false, List, [], ◌∷◌, Contains, Some}
use Rattle.std.specs.Bool.{MatchBool}
use Rattle.std.specs.List.{AllZip}
use Rattle.std.proofs.Common.{refl, sym, ap, ◌∙◌, subst, inl, inr}
use Rattle.std.proofs.lemmas.List.Elements.{All-contains, All-contains_itself, All-weaker}
use Rattle.sd_value.specs.declared.Value.{Value}
use Rattle.sd_value.specs.Members.{Contains-here, Contains-there}
use Rattle.rpe.specs.Regex.{Regex, Word}
use Rattle.rpe.specs.Language.{InLanguage}
use Rattle.graph_spec.specs.DataGraph.{DataGraph, Name, node, IsWellFormed, HasEdge, HasMember, IsValueOf, IsLabelValueOf}
use Rattle.graph_spec.specs.Walk.{Walk}
use Rattle.query_spec.specs.declared.Variable.{Variable}
use Rattle.query_spec.specs.Query.{Operand, variable, constant, arc_variable, expression, Condition, member, path, compare, one_of, kind, negation, Chain}
use Rattle.query_spec.specs.Mentions.{same_name}
use Rattle.query_spec.specs.Holds.{Assignment, operand_value, Holds}
use Rattle.query_spec.specs.Rows.{value_in, IsInDomain, IsRow}
use Rattle.edit_spec.specs.declared.Edit.{Edit}
use Rattle.edit_spec.specs.Edited.{Edited, IsOfData}
use Rattle.edit_spec.specs.Touches.{IsVariable, FindsNode, FindsLabel, Finds, IsGuarded, ReadsLabel, ReadsCollection, TouchesChain, by_edge, by_member}
use Rattle.edit_laws.proofs.Graphs.{has_edge_to, has_edge_from, has_member_to, has_member_from, well_formed_after}
use Rattle.edit_laws.proofs.Guards.{same_is, same_itself, by_test, guarded}
use Rattle.edit_laws.proofs.Walks.{word_steps, walk_to, start_in, end_in, label_in, walk_end}
use Rattle.edit_laws.proofs.Chains.{AreDistinct, head_differs, tail_distinct}

-- what the condition reads is the same in both graphs
pub record ReadsAlike (G H : DataGraph) (k : Condition) : Type 0 where
  pub edge_to : (l : Name) → ReadsLabel l k → (u v : Value) → HasEdge G u l v → HasEdge H u l v
  pub edge_from : (l : Name) → ReadsLabel l k → (u v : Value) → HasEdge H u l v → HasEdge G u l v
  pub member_to : (c : Name) → ReadsCollection c k → (n : Name) → HasMember G c n → HasMember H c n
  pub member_from : (c : Name) → ReadsCollection c k → (n : Name) → HasMember H c n → HasMember G c n

turned : (G H : DataGraph) (k : Condition) → ReadsAlike G H k → ReadsAlike H G k
turned G H k a = record {
  edge_to = a.edge_from;
  edge_from = a.edge_to;
  member_to = a.member_from;
  member_from =
      a.member_to;
}

-- ---- conditions

holds_to : (G H : DataGraph) (version : ℕ) (k : Condition) (s : Assignment) → ReadsAlike G H k → Holds G version k s
    → Holds H version k s
holds_to G H version (member c x) s a (n, is, m) = (n, is, a.member_to c refl n m)
holds_to G H version (path t (expression r) u) s a (p, q, tp, uq, word, in_r, walk) =
    (p, q, tp, uq, word, in_r, walk_to G H word (λ l c. a.edge_to l (word_steps r word l in_r c)) p q walk)
holds_to G H version (path t (arc_variable x) u) s a (p, q, tp, uq, label, is, edge) =
    (p, q, tp, uq, label, is, a.edge_to label tt p q edge)
holds_to G H version (compare t op u) s a h = h
holds_to G H version (one_of t values) s a h = h
holds_to G H version (kind test x) s a h = h
holds_to G H version (negation c) s a h =
    let b : ReadsAlike H G c = record {
      edge_to = a.edge_from;
      edge_from = a.edge_to;
      member_to = a.member_from;
      member_from = a.member_to;
    } in
    λ k. h (holds_to H G version c s b k)

-- ---- values

same_some : {a b : Value} → Some a ≡ Some b → a ≡ b
same_some e = cc

-- the variable's value is that of the operand
operand_is : (t : Operand) (x : Name) (s : Assignment) (a b : Value) → IsVariable t x → s x ≡ Some a
    → operand_value s t ≡ Some b → b ≡ a
operand_is (variable y) x s a b e sx sy = same_some (sym sy ∙ ap s e ∙ sx)
operand_is (constant v) x s a b never sx sy = absurd never

module _ (H : DataGraph) (w : IsWellFormed H) (version : ℕ) (s : Assignment) where
  walk_ends : (r : Regex) (word : Word) (u v : Value) → (InLanguage r [] → ⊥) → InLanguage r word → Walk H u word v
      → IsValueOf H u × IsValueOf H v
  walk_ends r [] u v full in_r walk = absurd (full in_r)
  walk_ends r (l ∷ rest) u v full in_r (m, step, walk) =
      (start_in H w u l m step, walk_end H w l rest u v (m, step, walk))

  one_end : (t u : Operand) (x : Name) (a p q : Value) → IsVariable t x ⊎ IsVariable u x → s x ≡ Some a
      → operand_value s t ≡ Some p → operand_value s u ≡ Some q → IsValueOf H p → IsValueOf H q → IsValueOf H a
  one_end t u x a p q (inl is) sx tp uq at_p at_q = subst (IsValueOf H) (operand_is t x s a p is sx tp) at_p
  one_end t u x a p q (inr is) sx tp uq at_p at_q = subst (IsValueOf H) (operand_is u x s a q is sx uq) at_q

  node_found : (k : Condition) (x : Name) (a : Value) → FindsNode k x → Holds H version k s → s x ≡ Some a
      → IsValueOf H a
  node_found (member c y) x a e (n, is, m) sx =
      let same : node n ≡ a = same_some (sym is ∙ ap s e ∙ sx) in subst (IsValueOf H) same
      (w.members_are_nodes (record { collection = c; node = n }) m)
  node_found (path t (expression r) u) x a (full, at) (p, q, tp, uq, word, in_r, walk) sx =
      let ends = walk_ends r word p q full in_r walk in one_end t u x a p q at sx tp uq ends.0 ends.1
  node_found (path t (arc_variable y) u) x a (full, at) (p, q, tp, uq, label, is, edge) sx =
      one_end t u x a p q at sx tp uq (start_in H w p label q edge) (end_in H w p label q edge)
  node_found (compare t op u) x a never h sx = absurd never
  node_found (one_of t values) x a never h sx = absurd never
  node_found (kind test y) x a never h sx = absurd never
  node_found (negation c) x a never h sx = absurd never

  label_found : (k : Condition) (x : Name) (a : Value) → FindsLabel k x → Holds H version k s → s x ≡ Some a
      → IsLabelValueOf H a
  label_found (path t (arc_variable y) u) x a e (p, q, tp, uq, label, is, edge) sx =
      (label, label_in H p label q edge, same_some (sym sx ∙ (sym (ap s e) ∙ is)))
  label_found (path t (expression r) u) x a never h sx = absurd never
  label_found (member c y) x a never h sx = absurd never
  label_found (compare t op u) x a never h sx = absurd never
  label_found (one_of t values) x a never h sx = absurd never
  label_found (kind test y) x a never h sx = absurd never
  label_found (negation c) x a never h sx = absurd never

  -- a variable that a condition finds has a value of the domain
  found : (v : Variable) (k : Condition) (a : Value) → Finds v k → Holds H version k s → s v.name ≡ Some a
      → IsInDomain H v a
  found v k a f h sx = by v.arc f
    where
      by : (arc : Bool) → MatchBool arc (FindsLabel k v.name) (FindsNode k v.name) → MatchBool arc (IsLabelValueOf H a)
          (IsValueOf H a)
      by true g = label_found k v.name a g h sx
      by false g = node_found k v.name a g h sx

-- ---- domains

at_head : (v : Variable) (variables : List Variable) (a : Value) (row : List Value) → value_in (v ∷ variables) (a ∷ row)
    v.name ≡ Some a
at_head v variables a row = rw (same_itself v.name) refl

past_head : (v w : Variable) (variables : List Variable) (a : Value) (row : List Value) → v.name ≢ w.name
    → value_in (v ∷ variables) (a ∷ row) w.name ≡ value_in variables row w.name
past_head v w variables a row differ =
    by_test (same_name v.name w.name) (value_in (v ∷ variables) (a ∷ row) w.name ≡ value_in variables row w.name)
    (λ t. absurd (differ (same_is v.name w.name t)))
    (λ f. rw f refl)

domain_to : (G H : DataGraph) (variables : List Variable) (row : List Value) → AreDistinct variables
    → AllZip (IsInDomain G) variables row
    → ((v : Variable) → Contains variables v → (a : Value) → value_in variables row v.name ≡ Some a → IsInDomain H v a)
    → AllZip (IsInDomain H) variables row
domain_to G H [] [] d z each = tt
domain_to G H [] (a ∷ row) d z each = absurd z
domain_to G H (v ∷ variables) [] d z each = absurd z
domain_to G H (v ∷ variables) (a ∷ row) d z each = (
  each v (Contains-here v variables) a (at_head v variables a row),
  domain_to G H variables row (tail_distinct v variables d) z.1
      (λ x c b is. each x (Contains-there v variables x c) b
      (past_head v x variables a row (head_differs v variables d x c) ∙ is)),
)

-- ---- rows

pub row_to : (G H : DataGraph) (c : Chain) → IsWellFormed H → AreDistinct c.variables → IsGuarded c
    → ((k : Condition) → Contains c.conditions k → ReadsAlike G H k)
    → (row : List Value) → IsRow G c row → IsRow H c row
row_to G H c w d g alike row r =
    let s : Assignment = value_in c.variables row in
    let hold : (k : Condition) → Contains c.conditions k → Holds H c.version k s = λ k m. holds_to G H c.version k s
    (alike k m) (All-contains (λ j. Holds G c.version j s) c.conditions k r.conditions_hold m) in
    record {
      in_domain = domain_to G H c.variables row d r.in_domain
          (λ v m a is. (let f = g v m in found H w c.version s v f.item a f.holds (hold f.item f.within) is));
      conditions_hold = All-weaker (Contains c.conditions) (λ k. Holds H c.version k s) hold c.conditions
          (All-contains_itself c.conditions);
    }

pub reads_alike : (G H : DataGraph) (e : Edit) (c : Chain) → Edited G e H → (TouchesChain e c → ⊥) → (k : Condition)
    → Contains c.conditions k → ReadsAlike G H k
reads_alike G H e c h never k m = record {
  edge_to = λ l reads. has_edge_to G H e h l
      (λ is. never (by_edge l is (record { item = k; within = m; holds = reads })));
  edge_from = λ l reads. has_edge_from G H e h l
      (λ is. never (by_edge l is (record { item = k; within = m; holds = reads })));
  member_to = λ x reads. has_member_to G H e h x
      (λ is. never (by_member x is (record { item = k; within = m; holds = reads })));
  member_from = λ x reads. has_member_from G H e h x
      (λ is. never (by_member x is (record { item = k; within = m; holds = reads })));
}

pub rows_stay : (G H : DataGraph) (e : Edit) (c : Chain) → IsWellFormed G → IsOfData e → Edited G e H
    → AreDistinct c.variables → (TouchesChain e c → ⊥)
    → (row : List Value) → IsRow G c row ↔ IsRow H c row
rows_stay G H e c w data_only h d never row =
    let alike = reads_alike G H e c h never in
    let g = guarded e c never in (
      row_to G H c (well_formed_after G H e w data_only h) d g alike row,
      row_to H G c w d g (λ k m. turned G H k (alike k m)) row,
    )
