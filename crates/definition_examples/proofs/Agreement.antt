-- What a template's comparison says is what a query's says under version 1.
use Rattle.std.specs.Prelude.{◌≡◌, ◌⊎◌, ◌↔◌, ℤ}
use Rattle.std.proofs.Common.{arith, refl, sym, ◌∙◌, inl, inr}
use Rattle.std.specs.Ordering.{int_cmp, ordering_then}
use Rattle.std.specs.declared.cmp.Ordering.{Ordering}
use Rattle.std.specs.declared.cmp.Ordering.TheVariants.{Less, Equal, Greater}
use Rattle.sd_value.specs.declared.Datum.TheVariants.{Int, Text}
use Rattle.sd_value.specs.declared.Value.{Value}
use Rattle.sd_value.specs.declared.Value.TheVariants.{Data}
use Rattle.sd_value.specs.Order.{value_cmp, datum_cmp}
use Rattle.query_spec.specs.declared.Op.TheVariants as op
use Rattle.query_spec.specs.Holds as query
use Rattle.tmpl.specs.declared.Cmp.{Cmp}
use Rattle.tmpl.specs.declared.Cmp.TheVariants.{Eq, Ne, Lt, Le, Gt, Ge}
use Rattle.page_spec.specs.Pieces as page
use Rattle.definition_examples.specs.Agreement.{op_of}

no_twins : (v w : Value) → query.IsTwinOf 1 v w → ⊥
no_twins (Data (Int m)) (Data (Text s)) h = omega (arith, h.0)
no_twins (Data (Text s)) (Data (Int n)) h = omega (arith, h.0)
no_twins v w h = absurd h

then_equal : (o : Ordering) → ordering_then o Equal ≡ o
then_equal Less = refl
then_equal Equal = refl
then_equal Greater = refl

of_ints : (m n : ℤ) → value_cmp (Data (Int m)) (Data (Int n)) ≡ int_cmp m n
unfolding value_cmp datum_cmp
of_ints m n = then_equal (int_cmp m n)

stand : (o : Ordering) (v w : Value) → query.StandIn 1 o v w ↔ (page.AreComparable v w × (value_cmp v w ≡ o))
unfolding value_cmp datum_cmp
stand o (Data (Int m)) (Data (Int n)) = (λ h. (tt, of_ints m n ∙ h), λ h. sym (of_ints m n) ∙ h.1)
stand o (Data (Text s)) (Data (Text t)) = (λ h. (tt, h), λ h. h.1)
stand o (Data (Int m)) (Data (Text t)) = (λ h. absurd (omega (arith, h.1.0)), λ h. absurd h.0)
stand o (Data (Text s)) (Data (Int n)) = (λ h. absurd (omega (arith, h.1.0)), λ h. absurd h.0)
stand o v w = (λ h. absurd h, λ h. absurd h.0)

not_greater : (o : Ordering) → (o ≡ Greater → ⊥) → (o ≡ Less) ⊎ (o ≡ Equal)
not_greater Less h = inl refl
not_greater Equal h = inr refl
not_greater Greater h = absurd (h refl)

not_less : (o : Ordering) → (o ≡ Less → ⊥) → (o ≡ Greater) ⊎ (o ≡ Equal)
not_less Less h = absurd (h refl)
not_less Equal h = inr refl
not_less Greater h = inl refl

at_most : (v w : Value) → page.HoldsBetween Le v w ↔ query.Compares 1 op.Le v w
at_most v w = (
  λ h. elim (not_greater (value_cmp v w) h.1) [ inl less ↦ inl ((stand Less v w).1 (h.0, less)) | inr same ↦ inr ((stand Equal v w).1 (h.0, same)) ],
  elim [
    | inl less ↦ let h = (stand Less v w).0 less in let is = h.1 in (h.0, λ greater. cc)
    | inr same ↦ let h = (stand Equal v w).0 same in let is = h.1 in (h.0, λ greater. cc)
  ],
)

at_least : (v w : Value) → page.HoldsBetween Ge v w ↔ query.Compares 1 op.Ge v w
at_least v w = (
  λ h. elim (not_less (value_cmp v w) h.1) [ inl greater ↦ inl ((stand Greater v w).1 (h.0, greater)) | inr same ↦ inr ((stand Equal v w).1 (h.0, same)) ],
  elim [
    | inl greater ↦ let h = (stand Greater v w).0 greater in let is = h.1 in (h.0, λ less. cc)
    | inr same ↦ let h = (stand Equal v w).0 same in let is = h.1 in (h.0, λ less. cc)
  ],
)

pub agree : (c : Cmp) (v w : Value) → page.HoldsBetween c v w ↔ query.Compares 1 (op_of c) v w
agree Eq v w = (λ h. inl h, elim [ inl h ↦ h | inr h ↦ absurd (no_twins v w h) ])
agree Ne v w = (λ h. elim [ inl e ↦ h e | inr t ↦ no_twins v w t ], λ h e. h (inl e))
agree Lt v w = ((stand Less v w).1, (stand Less v w).0)
agree Le v w = at_most v w
agree Gt v w = ((stand Greater v w).1, (stand Greater v w).0)
agree Ge v w = at_least v w
