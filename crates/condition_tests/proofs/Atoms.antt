-- The atoms that stand for conditions.
use Rattle.std.proofs.Common.{◌≡◌, ℕ, List, [], ◌∷◌, refl, sym, subst}
use Rattle.std.specs.Prelude.{◌↔◌, Contains}
use Rattle.sd_value.specs.declared.Datum.TheVariants.{Text}
use Rattle.sd_value.specs.declared.Value.{Value}
use Rattle.sd_value.specs.declared.Value.TheVariants.{Data}
use Rattle.rpe.specs.Regex.{Regex, Word, label}
use Rattle.graph_spec.specs.DataGraph.{DataGraph, text, HasEdge}
use Rattle.graph_spec.specs.Walk.{Walk as WalkOf}
use Rattle.query_spec.specs.declared.Variable.{Variable}
use Rattle.query_spec.specs.Query.{Operand, expression, path, one_of}
use Rattle.condition_tests.specs.declared.literal.Slot.{Slot}
use Rattle.condition_tests.specs.declared.literal.Relation.TheVariants.{Edge, Walk, Compare}
use Rattle.condition_tests.specs.declared.literal.Property.TheVariants.{OneOf}
use Rattle.condition_tests.specs.declared.literal.Atom.TheVariants.{One, Two}
use Rattle.condition_tests.specs.Meaning.{HasArc}
use Rattle.rpe.specs.Language.{InLanguage}
use Rattle.automaton.specs.Table.{Table, HasWord}
use Rattle.condition_tests.specs.declared.literal.Relation.{Relation}
use Rattle.condition_tests.specs.Resolved.{IsPlaceOf, IsAtomOf, IsRelationOf}

edge_of : (G : DataGraph) (u : Value) (name : List ℕ) (v : Value) (word : Word) → word ≡ name ∷ [] → WalkOf G u word v → HasEdge G u name v
edge_of G u name v word e w =
    let one : WalkOf G u (name ∷ []) v = subst (λ x. WalkOf G u x v) e w in
    subst (λ m. HasEdge G u name m) one.2 one.1

-- the label of an arc is a text
label_of : (G : DataGraph) (u l v : Value) → HasArc G u l v → (name : List ℕ) × (l ≡ text name) × HasEdge G u name v
label_of G u (Data (Text name)) v h = (name, refl, h)
label_of G u l v h = absurd h

module _ (version : ℕ) (variables : List Variable) where
  pub walk_atom : (from to : Operand) (r : Regex) (table : Table) (p q : Slot) → IsPlaceOf variables from p → IsPlaceOf variables to q → ((word : Word) → HasWord table word ↔ InLanguage r word)
      → IsAtomOf version variables (path from (expression r) to) (Two p (Walk table) q)
  walk_atom from to r table p q i j words = λ G t l. (
    (λ h. (h.0, h.1, i.to t h.0 l h.2, j.to t h.1 l h.3, h.4.0, (words h.4.0).0 h.4.1, h.4.2)),
    (λ h. (h.0, h.1, i.from t h.0 l h.2, j.from t h.1 l h.3, (h.4, (words h.4).1 h.5, h.6))),
  )

  -- a label alone is walked by one edge
  pub edge_atom : (from to : Operand) (name : List ℕ) (p q : Slot) → IsPlaceOf variables from p → IsPlaceOf variables to q → IsAtomOf version variables (path from (expression (label name)) to) (Two p (Edge name) q)
  edge_atom from to name p q i j = λ G t l. (
    (λ h. (h.0, h.1, i.to t h.0 l h.2, j.to t h.1 l h.3, name ∷ [], refl, (h.1, h.4, refl))),
    (λ h. (h.0, h.1, i.from t h.0 l h.2, j.from t h.1 l h.3, edge_of G h.0 name h.1 h.4 h.5 h.6)),
  )

  pub path_atom : (from to : Operand) (r : Regex) (rel : Relation) (p q : Slot) → IsPlaceOf variables from p → IsPlaceOf variables to q → IsRelationOf r rel → IsAtomOf version variables (path from (expression r) to) (Two p rel q)
  path_atom from to r (Edge name) p q i j h = subst (λ e. IsAtomOf version variables (path from (expression e) to) (Two p (Edge name) q)) (sym h) (edge_atom from to name p q i j)
  path_atom from to r (Walk table) p q i j h = walk_atom from to r table p q i j h
  path_atom from to r (Compare op) p q i j h = absurd h

  -- a set with the members of a list
  pub one_of_atom : (operand : Operand) (p : Slot) (set constants : List Value) → IsPlaceOf variables operand p → ((v : Value) → Contains set v ↔ Contains constants v) → IsAtomOf version variables (one_of operand constants) (One p (OneOf set))
  one_of_atom operand p set constants place same = λ G t l. (
    (λ h. (h.0, place.to t h.0 l h.1, h.2.0, (same h.2.0).0 h.2.1, h.2.2)),
    (λ h. (h.0, place.from t h.0 l h.1, (h.2, (same h.2).1 h.3, h.4))),
  )
