use Rattle.std.proofs.Common.{◌≡◌, ◌-◌, ◌<◌, suc, Some, length, arith, sym, ap, ◌∙◌, subst, drop, cond}
use Rattle.std.specs.Prelude.{slice_get}
use Rattle.std.specs.Ordering.{is_eq}
use Rattle.std.specs.BTreeMap.{get}
use Rattle.std.specs.Map.{lookup}
use Rattle.std.proofs.lemmas.Option.{slice_get-get_or}
use Rattle.sd_value.specs.Order.{bytes_cmp}
use Rattle.graph_spec.specs.DataGraph.{Name}
use Rattle.planner.specs.Prices.{CountsAs}
use Rattle.planner.proofs.Named.{counts_as-none, counts_as-more}
use Rattle.planner.proofs.prices.by_name.Goals as goal

pub loop-rest-init : goal.loop-rest-init
loop-rest-init c = (omega arith, counts_as-none c.args.counted.now c.new-counts.result (λ name. ap (lookup (λ k. is_eq (bytes_cmp name k))) c.new-counts.ensures.empty))

pub loop-rest-preserved : goal.loop-rest-preserved
loop-rest-preserved c =
    let entry = c.index-counted-rest.result in
    let within : c.loop-rest.rest - 1 < length c.args.counted.now = omega (arith, c.loop-rest.invariant.0, c.loop-rest-test.true) in
    let back : suc (c.loop-rest.rest - 1) ≡ c.loop-rest.rest = omega (arith, c.loop-rest-test.true) in
    let at : slice_get c.args.counted.now (c.loop-rest.rest - 1) ≡ Some entry = slice_get-get_or c.args.counted.now (c.loop-rest.rest - 1) entry within ∙ ap Some (sym c.index-counted-rest.is) in
    let gets : (v : Name) → get bytes_cmp c.insert.new.self v ≡ cond (is_eq (bytes_cmp entry.name v)) (Some entry.count) (get bytes_cmp c.loop-rest.counts v) =
    rw (← c.in_ok-name.ensures) c.in_ok-insert.ensures.updates.0 in (
      omega (arith, c.loop-rest.invariant.0),
      counts_as-more c.args.counted.now (c.loop-rest.rest - 1) entry c.loop-rest.counts c.insert.new.self at gets (subst (λ n. CountsAs (drop n c.args.counted.now) c.loop-rest.counts) (sym back) c.loop-rest.invariant.1),
    )
