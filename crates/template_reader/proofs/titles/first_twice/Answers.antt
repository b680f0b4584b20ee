use Rattle.std.proofs.Common.{◌≡◌, ◌+◌, ◌∷◌, drop, refl}
use Rattle.template_reader.specs.Faults.{nothing_seen, see}
use Rattle.template_reader.proofs.Seen.{empty_has, next_title, split_at}
use Rattle.template_reader.proofs.titles.first_twice.Goals as goal

pub loop-title-init : goal.loop-title-init
loop-title-init c = (nothing_seen, (λ q. empty_has c.new.result c.new.ensures.empty q, λ q. empty_has c.new-2.result c.new-2.ensures.empty q), refl)

pub loop-title-preserved : goal.loop-title-preserved
loop-title-preserved c =
    let s = c.loop-title.invariant.0 in
    let holds = c.loop-title.invariant.1 in
    let split : drop c.loop-title.title-index c.args.titles.now ≡ c.title-item.result ∷ drop (c.loop-title.title-index + 1) c.args.titles.now = split_at c.args.titles.now c.loop-title.title-index c.title-item.result c.loop-title-test.true c.title-item.is in
    (see s c.title-item.result, c.in_ok-add.ensures.holds s holds, next_title s c.title-item.result _ _ _ c.in_ok-add.field-0 (c.in_ok-add.ensures.fresh s holds) c.if-not-branch.false split c.loop-title.invariant.2)
