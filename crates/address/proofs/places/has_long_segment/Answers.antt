use Rattle.std.proofs.Common.{◌+◌, ◌≤◌, get_or, drop, sym, refl, subst, arith, inr}
use Rattle.page_spec.specs.declared.TheConstants.{NAME_LIMIT}
use Rattle.address.proofs.Runs.{IsLongAfter, after_slash, before_slash, after_other, before_other, found_long, long_at_start}
use Rattle.address.proofs.Targets.{first_here}
use Rattle.address.proofs.places.has_long_segment.Goals as goal

pub loop-b-init : goal.loop-b-init
loop-b-init c = record { small = omega arith; long = (long_at_start c.args.path.now, λ h. inr h) }

pub loop-b-preserved-then-b-eq47 : goal.loop-b-preserved-then-b-eq47
loop-b-preserved-then-b-eq47 c =
    let p = c.args.path.now in
    let i = c.loop-b.b-index in
    let run = c.loop-b.run in
    let d = first_here p i c.loop-b-test.true in
    record {
      small = omega arith;
      long = (λ h. c.loop-b.invariant.long.0 (subst (IsLongAfter run) (sym d) (before_slash run (get_or p i 0) (drop (i + 1) p) h)), λ h. after_slash run (get_or p i 0) (drop (i + 1) p) c.loop-b.invariant.small c.if-b-eq47.true (subst (IsLongAfter run) d (c.loop-b.invariant.long.1 h)));
    }

pub returns-then-run-eq-NAME_LIMIT : goal.returns-then-run-eq-NAME_LIMIT
returns-then-run-eq-NAME_LIMIT c =
    let p = c.args.path.now in
    let i = c.loop-b.b-index in
    let d = first_here p i c.loop-b-test.true in
    (λ t. c.loop-b.invariant.long.0 (subst (IsLongAfter c.loop-b.run) (sym d) (found_long c.loop-b.run (get_or p i 0) (drop (i + 1) p) c.if-run-eq-NAME_LIMIT.true c.if-b-eq47.false)), λ h. refl)

pub loop-b-preserved : goal.loop-b-preserved
loop-b-preserved c =
    let p = c.args.path.now in
    let i = c.loop-b.b-index in
    let run = c.loop-b.run in
    let d = first_here p i c.loop-b-test.true in
    let small : run + 1 ≤ NAME_LIMIT = omega (arith, c.loop-b.invariant.small, c.if-run-eq-NAME_LIMIT.false) in
    record {
      small = small;
      long = (λ h. c.loop-b.invariant.long.0 (subst (IsLongAfter run) (sym d) (before_other run (get_or p i 0) (drop (i + 1) p) c.if-b-eq47.false h)), λ h. after_other run (get_or p i 0) (drop (i + 1) p) small (subst (IsLongAfter run) d (c.loop-b.invariant.long.1 h)));
    }
