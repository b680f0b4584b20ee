-- Which edits can touch the rows of a chain.
use Rattle.std.specs.Prelude.{◌≡◌, ◌⊎◌, [], Contains, ⊤}
use Rattle.std.specs.Bool.{MatchBool}
use Rattle.rpe.specs.Regex.{Regex, label, any, empty, seq, alt, star}
use Rattle.rpe.specs.Language.{InLanguage}
use Rattle.graph_spec.specs.DataGraph.{Name}
use Rattle.query_spec.specs.declared.Variable.{Variable}
use Rattle.query_spec.specs.Query.{Operand, variable, constant, PathStep, arc_variable, expression}
use Rattle.query_spec.specs.Query.{Condition, member, path, compare, one_of, kind, negation, Chain}
use Rattle.site_spec.specs.Site.{SomeOf}
use Rattle.edit_spec.specs.declared.Edit.{Edit}
use Rattle.edit_spec.specs.declared.Edit.TheVariants.{Add, Remove, Enter, Leave}

-- the edit is of an edge by the label
abbrev pub IsOfLabel : Edit → Name → Type 0
IsOfLabel (Add e) l = e.label ≡ l
IsOfLabel (Remove e) l = e.label ≡ l
IsOfLabel (Enter m) l = ⊥
IsOfLabel (Leave m) l = ⊥

-- the edit is of a member of the collection
abbrev pub IsOfCollection : Edit → Name → Type 0
IsOfCollection (Add e) c = ⊥
IsOfCollection (Remove e) c = ⊥
IsOfCollection (Enter m) c = m.collection ≡ c
IsOfCollection (Leave m) c = m.collection ≡ c

-- the operand is the variable x
abbrev pub IsVariable : Operand → Name → Type 0
IsVariable (variable y) x = y ≡ x
IsVariable (constant v) x = ⊥

-- every walk by the step has an edge: an arc step, or an expression that hasn't the empty word
abbrev pub HasEdges : PathStep → Type 0
HasEdges (arc_variable x) = ⊤
HasEdges (expression r) = InLanguage r [] → ⊥

-- the condition, where it holds, finds x in the data: as a member, or as an end of an edge
abbrev pub FindsNode : Condition → Name → Type 0
FindsNode (member c y) x = y ≡ x
FindsNode (path t s u) x = HasEdges s × (IsVariable t x ⊎ IsVariable u x)
FindsNode (compare t o u) x = ⊥
FindsNode (one_of t vs) x = ⊥
FindsNode (kind k y) x = ⊥
FindsNode (negation c) x = ⊥

-- the condition, where it holds, finds x as the label of an edge
abbrev pub FindsLabel : Condition → Name → Type 0
FindsLabel (path t (arc_variable y) u) x = y ≡ x
FindsLabel (path t (expression r) u) x = ⊥
FindsLabel (member c y) x = ⊥
FindsLabel (compare t o u) x = ⊥
FindsLabel (one_of t vs) x = ⊥
FindsLabel (kind k y) x = ⊥
FindsLabel (negation c) x = ⊥

-- the condition, where it holds, finds the variable in the data
abbrev pub Finds : Variable → Condition → Type 0
Finds v k = MatchBool v.arc (FindsLabel k v.name) (FindsNode k v.name)

-- each variable is found by some condition that stands outside `not`
abbrev pub IsGuarded : Chain → Type 0
IsGuarded c = (v : Variable) → Contains c.variables v → SomeOf (Finds v) c.conditions

-- the expression has the label, or Any
abbrev pub MayStep : Regex → Name → Type 0
MayStep (label m) l = m ≡ l
MayStep any l = ⊤
MayStep empty l = ⊥
MayStep (seq r s) l = MayStep r l ⊎ MayStep s l
MayStep (alt r s) l = MayStep r l ⊎ MayStep s l
MayStep (star r) l = MayStep r l

-- the condition, also under `not`, has an arc variable between arrows, the label or Any
abbrev pub ReadsLabel : Name → Condition → Type 0
ReadsLabel l (path t (arc_variable x) u) = ⊤
ReadsLabel l (path t (expression r) u) = MayStep r l
ReadsLabel l (negation c) = ReadsLabel l c
ReadsLabel l (member c x) = ⊥
ReadsLabel l (compare t o u) = ⊥
ReadsLabel l (one_of t vs) = ⊥
ReadsLabel l (kind k x) = ⊥

-- the condition, also under `not`, names the collection
abbrev pub ReadsCollection : Name → Condition → Type 0
ReadsCollection c (member d x) = d ≡ c
ReadsCollection c (negation k) = ReadsCollection c k
ReadsCollection c (path t s u) = ⊥
ReadsCollection c (compare t o u) = ⊥
ReadsCollection c (one_of t vs) = ⊥
ReadsCollection c (kind k x) = ⊥

-- the edit can change the rows of the chain: a variable of it may take any value of the data, or a
-- condition reads what is edited
pub data TouchesChain (e : Edit) (c : Chain) : Type 0 where
  by_value : (IsGuarded c → ⊥) → TouchesChain e c
  by_edge : (l : Name) → IsOfLabel e l → SomeOf (ReadsLabel l) c.conditions → TouchesChain e c
  by_member : (name : Name) → IsOfCollection e name → SomeOf (ReadsCollection name) c.conditions
      → TouchesChain e c
