-- Comparisons of numbers and texts under version 1, which converts nothing.
use Rattle.std.specs.Prelude.{codes}
use Rattle.std.proofs.Common.{arith, refl, inl, inr}
use Rattle.graph_spec.specs.DataGraph.{text}
use Rattle.query_spec.specs.declared.Op.TheVariants.{Ne, Lt, Ge}
use Rattle.query_spec.specs.Holds.{Compares}
use Rattle.definition_examples.specs.Bibliography.{int}

-- the Int 1 and the Text `1` are different
pub differ : Compares 1 Ne (int 1) (text (codes "1"))
differ = elim [ inl h ↦ cc | inr h ↦ omega (arith, h.0) ]

-- and neither is below the other
pub not_below : Compares 1 Lt (int 1) (text (codes "1")) → ⊥
not_below (n, twins, order) = omega (arith, twins.0)

pub not_above : Compares 1 Ge (int 1) (text (codes "1")) → ⊥
not_above = elim [ inl h ↦ omega (arith, h.1.0) | inr h ↦ omega (arith, h.1.0) ]

pub by_number : Compares 1 Lt (int 9) (int 10)
by_number = refl

pub by_bytes : Compares 1 Lt (text (codes "10")) (text (codes "9"))
by_bytes = refl
