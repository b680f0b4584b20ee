-- The orders by keys are total, and tie nothing but equals.
use Rattle.std.proofs.Common.{◌≡◌, refl, ap, sym, ◌∙◌}
use Rattle.std.specs.Prelude.{Bool, true, false, Option, Some, None}
use Rattle.std.specs.declared.cmp.Ordering.{Ordering}
use Rattle.std.specs.declared.cmp.Ordering.TheVariants.{Less, Equal}
use Rattle.std.specs.Ordering.{ordering_reverse}
use Rattle.std.specs.Cmp.{IsTotalOrder}
use Rattle.std.specs.FinMap.{IsAntisymmetric}
use Rattle.std.proofs.lemmas.Cmp.{on_total, then_total}
use Rattle.sd_value.specs.Names.{Name}
use Rattle.sd_value.specs.OrderLaws.{value_cmp-total, value_cmp-exact, both_tie}
use Rattle.key_spec.specs.Keys.{folded_cmp, turned_cmp, keyed_cmp}

module _ {X : Type 0} {R : X → X → Ordering} (o : IsTotalOrder R) where
  pub turned_total : (b : Bool) → IsTotalOrder (turned_cmp b R)
  turned_total false = record { antisymm = o.antisymm; trans = o.trans; congr = o.congr }
  turned_total true = record {
    antisymm = λ x y. o.antisymm y x;
    trans = λ x y z p q. o.trans z y x q p;
    congr = λ x y z e. o.antisymm z x ∙ ap ordering_reverse (sym (o.congr y x z e)) ∙ sym (o.antisymm z y);
  }

  keyed_antisymm : (x y : Option X) → keyed_cmp R x y ≡ ordering_reverse (keyed_cmp R y x)
  keyed_antisymm (Some a) (Some b) = o.antisymm a b
  keyed_antisymm (Some a) None = refl
  keyed_antisymm None (Some b) = refl
  keyed_antisymm None None = refl

  keyed_trans : (x y z : Option X) → keyed_cmp R x y ≡ Less → keyed_cmp R y z ≡ Less → keyed_cmp R x z ≡ Less
  keyed_trans (Some a) (Some b) (Some c) p q = o.trans a b c p q
  keyed_trans (Some a) (Some b) None p q = refl
  keyed_trans (Some a) None (Some c) p q = cc
  keyed_trans (Some a) None None p q = cc
  keyed_trans None (Some b) z p q = cc
  keyed_trans None None (Some c) p q = cc
  keyed_trans None None None p q = cc

  keyed_congr : (x y z : Option X) → keyed_cmp R x y ≡ Equal → keyed_cmp R x z ≡ keyed_cmp R y z
  keyed_congr (Some a) (Some b) (Some c) p = o.congr a b c p
  keyed_congr (Some a) (Some b) None p = refl
  keyed_congr (Some a) None z p = cc
  keyed_congr None (Some b) z p = cc
  keyed_congr None None z p = refl

  -- the order in which those without a key come last is total
  pub keyed_total : IsTotalOrder (keyed_cmp R)
  keyed_total = record { antisymm = keyed_antisymm; trans = keyed_trans; congr = keyed_congr }

module _ {X : Type 0} {R : X → X → Ordering} (exact : IsAntisymmetric R) where
  -- an order that is turned round ties what it tied
  pub turned_exact : (b : Bool) → IsAntisymmetric (turned_cmp b R)
  turned_exact false x y h = exact x y h
  turned_exact true x y h = sym (exact y x h)

  -- keys that some lack tie only where both have one, or none
  pub keyed_exact : IsAntisymmetric (keyed_cmp R)
  keyed_exact (Some a) (Some b) h = ap (λ (k : X). Some k) (exact a b h)
  keyed_exact (Some a) None h = cc
  keyed_exact None (Some b) h = cc
  keyed_exact None None h = refl

-- the order of values by their folded texts is total
pub folded_total : (f : Name → Name) (b : Bool) → IsTotalOrder (folded_cmp f b)
folded_total f false = value_cmp-total
folded_total f true = then_total (on_total _ value_cmp-total) value_cmp-total

-- values that tie by their folded texts are one
pub folded_exact : (f : Name → Name) (b : Bool) → IsAntisymmetric (folded_cmp f b)
folded_exact f false x y h = value_cmp-exact x y h
folded_exact f true x y h = value_cmp-exact x y (both_tie _ _ h).1
