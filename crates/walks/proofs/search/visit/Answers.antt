use Rattle.std.proofs.Common.{◌≡◌, refl, Some, cond}
use Rattle.std.specs.Ordering.{is_eq}
use Rattle.std.specs.BTreeMap.{get}
use Rattle.sd_value.specs.declared.Value.{Value}
use Rattle.sd_value.specs.Order.{value_cmp}
use Rattle.walks.proofs.Visits.{quiet_visit, loud_visit}
use Rattle.walks.proofs.search.visit.Goals as goal

pub returns-then-is_empty : goal.returns-then-is_empty
returns-then-is_empty c = quiet_visit _ _ _ _ _ _ c.sorted-fresh.ensures (c.if-is_empty.ensures.none refl)

pub returns : goal.returns
returns c =
    let some = c.if-is_empty.ensures.some refl in
    let key : c.in_ok-key.key ≡ c.args.value = c.in_ok-key.ensures in
    let gets : (v : Value) → get value_cmp c.insert.new.self v ≡ cond (is_eq (value_cmp c.args.value v)) (Some c.sorted-fresh.result.all) (get value_cmp c.args.seen.now v) =
    rw (← key) c.in_ok-insert.ensures.updates.0 in
    rw c.in_ok-push.ensures.items
    (loud_visit _ _ _ _ _ _ _ c.sorted-fresh.ensures gets some.0 some.1)
