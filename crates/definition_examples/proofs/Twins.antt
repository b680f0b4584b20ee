-- Under version 2 a number and the text that spells it are equal, and no other text is equal to a number.
use Rattle.std.specs.Prelude.{pos, codes}
use Rattle.std.specs.Fmt.{digits}
use Rattle.std.proofs.Common.{refl, inl, inr, arith}
use Rattle.graph_spec.specs.DataGraph.{text}
use Rattle.query_spec.specs.declared.Op.TheVariants.{Eq, Ne, Lt}
use Rattle.query_spec.specs.Holds.{Compares, AreTwins}
use Rattle.definition_examples.specs.Bibliography.{int}

are_twins : AreTwins 2 (pos 7) (codes "7")
unfolding digits
are_twins = (omega arith, omega arith, omega arith, refl)

pub equal_to_its_text : Compares 2 Eq (int 7) (text (codes "7"))
equal_to_its_text = inr are_twins

pub either_way_round : Compares 2 Eq (text (codes "7")) (int 7)
either_way_round = inr are_twins

-- a number's text has no zero in front
pub unlike_with_a_zero : Compares 2 Ne (int 7) (text (codes "07"))
unfolding digits
unlike_with_a_zero = elim [ inl h ↦ cc | inr h ↦ let s = h.3 in cc ]

-- and under version 1 the two are different
pub unlike_under_version_1 : Compares 1 Ne (int 7) (text (codes "7"))
unlike_under_version_1 = elim [ inl h ↦ cc | inr h ↦ omega (arith, h.0) ]

-- by number, and not by bytes: `10` is before `9` by bytes
pub below_as_numbers : Compares 2 Lt (int 9) (text (codes "10"))
unfolding digits
below_as_numbers = (pos 10, (omega arith, omega arith, omega arith, refl), refl)

pub texts_by_bytes : Compares 2 Lt (text (codes "10")) (text (codes "9"))
texts_by_bytes = refl
