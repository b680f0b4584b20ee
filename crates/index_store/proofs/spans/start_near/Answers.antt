use Rattle.std.proofs.Common.{◌≡◌, ◌-◌, ◌+◌, arith, sym, ◌∙◌, ap, subst, true}
use Rattle.std.specs.List.{AllWithin}
use Rattle.list_lookup.specs.Picked.{passes}
use Rattle.list_lookup.specs.PickedLaws.{all_before}
use Rattle.index_store.proofs.spans.start_near.Goals as goal

pub returns-then-is_passed : goal.returns-then-is_passed
returns-then-is_passed g c =
    let passed : passes c.args.through (g.Q.Query.at c.args.query.now c.index-items-near.result) ≡ true = ap (passes c.args.through) (sym c.place.ensures) ∙ sym c.if-is_passed.ensures in
    let near_is : c.args.near - 1 + 1 ≡ c.args.near = omega arith in (
      omega arith,
      subst (λ n. AllWithin (λ x. passes c.args.through (g.Q.Query.at c.args.query.now x) ≡ true) c.args.items.now 0 n) near_is
          (all_before (g.Q.Query.at c.args.query.now) c.args.items.now c.requires c.args.through (c.args.near - 1) c.index-items-near.result (omega arith) c.index-items-near.is passed),
    )
