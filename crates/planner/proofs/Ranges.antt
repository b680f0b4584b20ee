-- The variables of a shape are among the chain's.
use Rattle.std.proofs.Common.{◌≡◌, ℕ, zero, suc, List, [], ◌∷◌, length, map, arith, subst}
use Rattle.std.specs.Prelude.{Bool, true, false, Option, None, Some, slice_get, option_map, if◌then◌else◌}
use Rattle.graph_spec.specs.DataGraph.{Name}
use Rattle.query_spec.specs.declared.Variable.{Variable}
use Rattle.query_spec.specs.Query.{Chain, Operand, variable, constant, arc_variable, expression, Condition, member, path, compare, one_of, kind, negation}
use Rattle.query_spec.specs.Mentions.{same_name}
use Rattle.plan_spec.specs.declared.Counts.{Counts}
use Rattle.plan_spec.specs.declared.Shape.{Shape}
use Rattle.planner.specs.Ranges.{SideInRange, ShapeInRange, ShapesInRange}
use Rattle.plan_spec.specs.Shape.{number_of, side_of, shape_of, shapes_of}

next_in_range : (n : ℕ) (o : Option ℕ) → SideInRange n o → SideInRange (suc n) (option_map suc o)
next_in_range n None h = tt
next_in_range n (Some k) h = omega (arith, h)

either_in_range : (n : ℕ) (b : Bool) (p q : Option ℕ) → SideInRange n p → SideInRange n q → SideInRange n (if b then p else q)
either_in_range n true p q h k = h
either_in_range n false p q h k = k

number_in_range : (variables : List Variable) (x : Name) → SideInRange (length variables) (number_of variables x)
number_in_range [] x = tt
number_in_range (v ∷ vs) x = either_in_range (suc (length vs)) (same_name v.name x) (Some 0) (option_map suc (number_of vs x)) (omega arith) (next_in_range (length vs) (number_of vs x) (number_in_range vs x))

side_in_range : (variables : List Variable) (t : Operand) → SideInRange (length variables) (side_of variables t)
side_in_range variables (variable x) = number_in_range variables x
side_in_range variables (constant v) = tt

pub shape_in_range : (counts : Counts) (version : ℕ) (variables : List Variable) (c : Condition) → ShapeInRange (length variables) (shape_of counts version variables c)
shape_in_range counts version variables (member collection x) = record { from = number_in_range variables x; arc = tt; to = tt }
shape_in_range counts version variables (path t (expression r) u) = record { from = side_in_range variables t; arc = tt; to = side_in_range variables u }
shape_in_range counts version variables (path t (arc_variable l) u) = record { from = side_in_range variables t; arc = number_in_range variables l; to = side_in_range variables u }
shape_in_range counts version variables (compare t op u) = record { from = side_in_range variables t; arc = tt; to = side_in_range variables u }
shape_in_range counts version variables (one_of t constants) = record { from = side_in_range variables t; arc = tt; to = tt }
shape_in_range counts version variables (kind test x) = record { from = number_in_range variables x; arc = tt; to = tt }
shape_in_range counts version variables (negation k) = let r = shape_in_range counts version variables k in record { from = r.from; arc = r.arc; to = r.to }

each_in_range : (n : ℕ) (f : Condition → Shape) → ((c : Condition) → ShapeInRange n (f c)) → (cs : List Condition) (i : ℕ) (s : Shape) → slice_get (map f cs) i ≡ Some s → ShapeInRange n s
each_in_range n f each [] i s h = cc
each_in_range n f each (c ∷ cs) zero s h = let e : f c ≡ s = cc in subst (ShapeInRange n) e (each c)
each_in_range n f each (c ∷ cs) (suc i) s h = each_in_range n f each cs i s h

pub shapes_in_range : (counts : Counts) (c : Chain) → ShapesInRange (length c.variables) (shapes_of counts c)
shapes_in_range counts c = each_in_range (length c.variables) (shape_of counts c.version c.variables) (shape_in_range counts c.version c.variables) c.conditions
