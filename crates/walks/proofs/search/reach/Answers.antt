use Rattle.std.proofs.lemmas.Result.{IfOk-weaker}
use Rattle.sd_value.specs.Ascending.{ListsExactly}
use Rattle.sd_value.specs.Order.{value_cmp}
use Rattle.walks.specs.Search.{HasEnd}
use Rattle.walks.specs.Directions.{JoinsBy}
use Rattle.walks.proofs.Selected.{ends_listed}
use Rattle.walks.proofs.search.reach.Goals as goal

pub returns : goal.returns
returns g c =
    let G = g.S.Store.graph c.args.store.now in
    let t = c.args.automaton.now in
    let d = c.args.direction in
    let u = c.args.start.now in
    IfOk-weaker c.select.result
    (λ values. ListsExactly value_cmp (HasEnd t d u c.in_ok-seen.seen) values.items)
    (λ values. ListsExactly value_cmp (JoinsBy G t d u) values.items)
    (λ values h. ends_listed G t d u c.in_ok-seen.seen values.items c.in_ok-seen.ensures h)
    c.select.ensures
