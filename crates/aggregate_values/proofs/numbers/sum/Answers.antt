use Rattle.std.proofs.Common.{◌≡◌, ◌∙◌, ◌+◌, arith, rules, sym, subst, refl}
use Rattle.std.specs.Prelude.{ℤ, Bool}
use Rattle.std.proofs.lemmas.Int.{ints, to_z-of_z}
use Rattle.aggregate_values.proofs.Adding.{Kept, kept_as, kept_some, kept_none, no_sum_found, sum_found}
use Rattle.aggregate_values.proofs.numbers.sum.Goals as goal
use Rattle.aggregate_values.proofs.numbers.sum.Goals.{in-Some, in_default}

pub returns-then-not-found : goal.returns-then-not-found
returns-then-not-found c = no_sum_found c.args.parts.now c.loop-i.i _ c.loop-i.found c.loop-i-test.false c.loop-i.invariant.kept c.if-not-found.true

pub returns : goal.returns
returns c = sum_found c.args.parts.now c.loop-i.i _ c.loop-i.found c.loop-i-test.false c.loop-i.invariant.kept c.narrow-sum.result c.if-not-found.false c.narrow-sum.ensures

pub loop-i-preserved : goal.loop-i-preserved
loop-i-preserved c =
    let parts = c.args.parts.now in
    let i = c.loop-i.i in
    elim c.match-number_of.branch [
      | in-Some w ↦
          let next = kept_some parts i c.index-parts-i.result _ w.in-Some.number c.loop-i.found c.number_of.result c.loop-i-test.true c.index-parts-i.is w.in-Some.is c.number_of.ensures c.loop-i.invariant.kept in
          let low = c.loop-i.invariant.low in
          let high = c.loop-i.invariant.high in
          record {
            kept = kept_as parts (i + 1) _ _ c.match-number_of.found _ (grind (arith, ints, to_z-of_z)) w.found-is next;
            low = omega (arith, ints);
            high = omega (arith, ints);
          }
      | in_default w ↦
          let next = kept_none parts i c.index-parts-i.result _ c.loop-i.found c.number_of.result c.loop-i-test.true c.index-parts-i.is w.in_default.is c.number_of.ensures c.loop-i.invariant.kept in
          let low = c.loop-i.invariant.low in
          let high = c.loop-i.invariant.high in
          record {
            kept = kept_as parts (i + 1) _ _ c.match-number_of.found _ w.total-is w.found-is next;
            low = omega (arith, ints);
            high = omega (arith, ints);
          }
    ]
