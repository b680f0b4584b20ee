use Rattle.std.proofs.Common.{◌≡◌, Option, None, refl, sym, subst, rules}
use Rattle.std.specs.Ordering.{nat_cmp}
use Rattle.std.specs.BTreeMap.{get}
use Rattle.page_spec.specs.Address.{TermOf}
use Rattle.hub.specs.Line.{Line}
use Rattle.serving_spec.specs.Made.{nothing}
use Rattle.serving_spec.specs.Shown.{shown_in}
use Rattle.hub.specs.Turns.{At, at_in, TakesPiece}
use Rattle.hub.proofs.table.take_piece.Goals as goal

pub returns-in-None-clause-taken : goal.returns-in-None-clause-taken
returns-in-None-clause-taken g c =
    let none : get nat_cmp c.args.connections.now c.args.number ≡ None = search rules in
    let at : At = at_in (get nat_cmp c.args.connections.now) (g.W.Wire.told c.args.wire.now).account (g.W.Wire.told c.args.wire.now).faults c.args.number in
    let now : At = at_in (get nat_cmp c.get_mut.follows.lender-at-none) (g.W.Wire.told c.args.wire.now).account (g.W.Wire.told c.args.wire.now).faults c.args.number in (
      nothing,
      subst (λ (l : Option Line). TakesPiece (shown_in c.args.origin.now g.P.Versions.site g.P.Versions.templates (g.P.Versions.state c.args.pages.now)) (TermOf c.args.origin.now.root) c.args.piece.now nothing l at now)
          (sym none) (search rules, refl),
      refl,
      refl,
    )
