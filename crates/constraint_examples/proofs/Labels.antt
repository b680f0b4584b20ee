-- A link whose label is one of a list may carry the twin of one of them, from version 2 on alone.
use Rattle.std.specs.Prelude.{◌≡◌, List, [], pos, codes, Contains}
use Rattle.std.specs.Fmt.{digits}
use Rattle.std.proofs.Common.{refl, sym, subst, inl, inr, arith, lit<, lit≤}
use Rattle.sd_value.specs.declared.Datum.TheVariants.{Int}
use Rattle.sd_value.specs.declared.Value.{Value}
use Rattle.sd_value.specs.declared.Value.TheVariants.{Data}
use Rattle.sd_value.specs.Members.{IsOneOf-from_Contains, Contains-here}
use Rattle.graph_spec.specs.DataGraph.{text}
use Rattle.query_spec.specs.Query.{Operand, variable, arc_variable, Condition, member, path, one_of}
use Rattle.query_spec.specs.Holds.{IsEqual, AreTwins}
use Rattle.constraint_spec.specs.declared.Constraint.TheVariants.{Never}
use Rattle.constraint_spec.specs.Placed.{PlacedLink, links_of}
use Rattle.constraint_spec.specs.Entailed.{IsAmong}
use Rattle.constraint_spec.specs.Certificate.{Certificate, IsCertificate, Forbids, MayBe, MayCarry}
use Rattle.constraint_examples.specs.Labels.{f, x, a, y, five, conditions, term, link, scope}
use Rattle.constraint_examples.proofs.Numbers.{has_number}

abbrev placed : PlacedLink
placed = record { conditions = conditions; link = link }

abbrev int_5 : Value
int_5 = Data (Int (pos 5))

differ : IsEqual 1 (text (codes "5")) int_5 → ⊥
differ = elim [ inl e ↦ cc | inr t ↦ omega (arith, t.0) ]

none_of_five : IsAmong 1 five (text (codes "5")) → ⊥
none_of_five (v, m, e) = elim (IsOneOf-from_Contains five v m) [ inl is ↦ differ (subst (IsEqual 1 (text (codes "5"))) (sym is) e) | inr none ↦ none ]

pub not_under_1 : IsCertificate (scope 1) (Never f (codes "5")) []
not_under_1 = (
  refl,
  λ n k may. elim (has_number (links_of (scope 1)) n k may.numbered) [
    | inl here ↦ by_label k here.1 may.label
    | inr none ↦ none
  ],
)
  where
    by_label : (k : PlacedLink) → placed ≡ k → MayBe 1 (codes "5") k.conditions k.link.label → ⊥
    by_label k e h =
        let at : MayBe 1 (codes "5") conditions link.label = subst (λ (z : PlacedLink). MayBe 1 (codes "5") z.conditions z.link.label) (sym e) h in
        at (one_of (variable a) five) (2, lit< tt, refl) (inr (inr (five, refl, none_of_five)))

are_twins : AreTwins 2 (pos 5) (codes "5")
unfolding digits
are_twins = (omega arith, omega arith, omega arith, refl)

one_of_five : IsAmong 2 five (text (codes "5"))
one_of_five = (int_5, Contains-here int_5 [], inr are_twins)

same_values : (u : Operand) (vs ws : List Value) → one_of u vs ≡ one_of u ws → vs ≡ ws
same_values u vs ws e = cc

allowed : (c : Condition) → Contains conditions c → Forbids 2 a (codes "5") c → ⊥
allowed c m h =
    elim (IsOneOf-from_Contains conditions c m) [
      | inl e ↦ not_member (subst (Forbids 2 a (codes "5")) (sym e) h)
      | inr (inl e) ↦ not_path (subst (Forbids 2 a (codes "5")) (sym e) h)
      | inr (inr (inl e)) ↦ not_list (subst (Forbids 2 a (codes "5")) (sym e) h)
      | inr (inr (inr none)) ↦ none
    ]
  where
    not_member : Forbids 2 a (codes "5") (member (codes "C") x) → ⊥
    not_member = elim [ inl (k, d, inl e) ↦ cc | inl (k, d, inr e) ↦ cc | inr (inl (inl e)) ↦ cc | inr (inl (inr e)) ↦ cc | inr (inr (vs, e, n)) ↦ cc ]

    not_path : Forbids 2 a (codes "5") (path (variable x) (arc_variable a) (variable y)) → ⊥
    not_path = elim [ inl (k, d, inl e) ↦ cc | inl (k, d, inr e) ↦ cc | inr (inl (inl e)) ↦ cc | inr (inl (inr e)) ↦ cc | inr (inr (vs, e, n)) ↦ cc ]

    not_list : Forbids 2 a (codes "5") (one_of (variable a) five) → ⊥
    not_list = elim [
      | inl (k, d, inl e) ↦ cc
      | inl (k, d, inr e) ↦ cc
      | inr (inl (inl e)) ↦ cc
      | inr (inl (inr e)) ↦ cc
      | inr (inr (vs, e, n)) ↦ n (subst (λ ws. IsAmong 2 ws (text (codes "5"))) (same_values (variable a) five vs e) one_of_five)
    ]

may_carry : MayCarry (scope 2) f (codes "5") 1 placed
may_carry = record {
  numbered = record { from_one = lit≤ tt; within = lit≤ tt; there = refl };
  starts = (term, refl, refl);
  label = allowed;
}

pub under_2 : (x : Certificate) → IsCertificate (scope 2) (Never f (codes "5")) x → ⊥
under_2 certificate h = h.1 1 placed may_carry
