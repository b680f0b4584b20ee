use Rattle.std.proofs.Common.{◌≡◌, sym, subst, length, refl}
use Rattle.plan_spec.specs.Shape.{shapes_of}
use Rattle.planner.specs.Ranges.{ShapesInRange}
use Rattle.planner.proofs.Ranges.{shapes_in_range}
use Rattle.planner.proofs.shape.shapes_of_chain.Goals as goal

pub returns-clause-in_range : goal.returns-clause-in_range
returns-clause-in_range c =
    let e : c.in_ok-shapes.shapes.items ≡ shapes_of c.args.counts.now c.args.chain.now = rw (c.in_ok-shapes.ensures, c.in_ok-prices.ensures.counts, c.conditions.ensures, c.version.ensures, c.variables.ensures) refl in
    subst (ShapesInRange (length c.args.chain.now.variables)) (sym e) (shapes_in_range c.args.counts.now c.args.chain.now)
