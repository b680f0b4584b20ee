use Rattle.std.proofs.Common.{◌≡◌, take, arith, refl, sym, ◌∙◌, ap}
use Rattle.std.proofs.lemmas.Grind.{common_steps}
use Rattle.std.specs.Ordering.{is_eq}
use Rattle.sd_value.specs.Members.{among_at, Contains-nil}
use Rattle.list_lookup.specs.PickedLaws.{none_more, in_place-is}
use Rattle.list_lookup.proofs.any.Goals as goal

pub loop-item-init : goal.loop-item-init
loop-item-init g c h = Contains-nil _ h.1

pub returns-then-is_eq : goal.returns-then-is_eq
returns-then-is_eq g c = (
  λ _. (
    c.item-item.result,
    among_at c.args.items.now c.loop-item.item-index c.item-item.result c.item-item.result c.loop-item-test.true c.item-item.is refl,
    in_place-is (g.Q.Query.at c.args.query.now c.item-item.result) (ap is_eq (sym c.place.ensures) ∙ sym c.is_eq.ensures ∙ c.if-is_eq.true),
  ),
  λ _. refl,
)

pub loop-item-preserved : goal.loop-item-preserved
loop-item-preserved g c h =
    none_more (g.Q.Query.at c.args.query.now) c.args.items.now c.loop-item.item-index c.item-item.result c.loop-item-test.true c.item-item.is c.loop-item.invariant
    (ap is_eq (sym c.place.ensures) ∙ sym c.is_eq.ensures ∙ c.if-is_eq.false) h

pub returns : goal.returns
returns g c =
    let whole : take c.loop-item.item-index c.args.items.now ≡ c.args.items.now = grind (arith, common_steps) in
    (λ impossible. cc, λ h. absurd (c.loop-item.invariant (rw whole h)))
