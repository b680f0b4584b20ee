use Rattle.std.specs.Prelude.{◌≡◌, ◌↔◌, Bool, true, false, IsTrue, Contains, List}
use Rattle.std.specs.declared.cmp.Ordering.{Ordering}
use Rattle.std.specs.Cmp.{IsTotalOrder}
use Rattle.std.specs.FinMap.{IsAntisymmetric}
use Rattle.std.proofs.Common.{refl, subst}
use Rattle.std.proofs.lemmas.Cmp.{tied_itself}
use Rattle.list_lookup.specs.Picked.{HasOne}
use Rattle.list_lookup.proofs.Placed.{placed, not_both}
use Rattle.live_store.proofs.ListLaws.{any_is}
use Rattle.live_store.proofs.lists.is_among.Goals as goal

found : {X : Type 0} (R : X → X → Ordering) → IsTotalOrder R → IsAntisymmetric R → (xs : List X) (k : X)
    → HasOne (λ x. R x k) xs ↔ Contains xs k
found R total exact xs k = (
  λ (x, at, tied). subst (Contains xs) (exact x k tied) at,
  λ c. (k, c, tied_itself total k),
)

through : {P Q R : Type 0} → P ↔ Q → Q ↔ R → P ↔ R
through h k = (λ p. k.0 (h.0 p), λ r. h.1 (k.1 r))

same_test : (b t : Bool) (P : Type 0) → IsTrue b ↔ P → IsTrue t ↔ P → b ≡ t
same_test true true P h k = refl
same_test true false P h k = let e = k.1 (h.0 refl) in cc
same_test false true P h k = let e = h.1 (k.0 refl) in cc
same_test false false P h k = refl

pub has-requires : goal.has-requires
has-requires g c = placed g.K.Ord.cmp g.K.Ord.cmp g.met.K.Ord.total (λ x. x) c.args.item.now c.args.items.now
    (λ x y h k. not_both (g.K.Ord.cmp x y) h k) c.requires

pub returns : goal.returns
returns g c =
    let is = through c.has.ensures (found g.K.Ord.cmp g.met.K.Ord.total g.met.K.ExactOrd.exact c.args.items.now c.args.item.now) in
    record {
      is = is;
      test = same_test c.has.result _ (Contains c.args.items.now c.args.item.now) is
          (any_is g.K.Ord.cmp g.met.K.Ord.total g.met.K.ExactOrd.exact c.args.item.now c.args.items.now);
    }
