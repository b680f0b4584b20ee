use Rattle.std.proofs.Common.{◌≡◌, Option, None, refl, sym, subst, rules}
use Rattle.std.specs.Ordering.{nat_cmp}
use Rattle.std.specs.BTreeMap.{get}
use Rattle.hub.specs.Line.{Line}
use Rattle.serving_spec.specs.Made.{nothing}
use Rattle.hub.specs.Turns.{At, at_in, Finishes}
use Rattle.hub.proofs.table.finish.Goals as goal

pub returns-in-None-clause-finished : goal.returns-in-None-clause-finished
returns-in-None-clause-finished g c =
    let none : get nat_cmp c.args.connections.now c.args.number ≡ None = search rules in
    let at : At = at_in (get nat_cmp c.args.connections.now) (g.W.Wire.told c.args.wire.now).account (g.W.Wire.told c.args.wire.now).faults c.args.number in
    let now : At = at_in (get nat_cmp c.get_mut.follows.lender-at-none) (g.W.Wire.told c.args.wire.now).account (g.W.Wire.told c.args.wire.now).faults c.args.number in (
      nothing,
      subst (λ (l : Option Line). Finishes nothing l at now) (sym none) (search rules, refl),
      refl,
      refl,
    )
