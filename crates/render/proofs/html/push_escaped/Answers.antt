use Rattle.std.proofs.Common.{◌≡◌, ◌+◌, ◌≤◌, ◌++◌, take, drop, arith}
use Rattle.page_spec.specs.Show as spec
use Rattle.render.proofs.Escapes.{plain_byte, entity_byte}
use Rattle.render.proofs.html.push_escaped.Goals.{in-Some+in_ok-push+in_ok-push-2, in_default}
use Rattle.render.proofs.html.push_escaped.Goals as goal

pub loop-i-preserved : goal.loop-i-preserved
loop-i-preserved c =
    let text = c.args.text.now in
    let before = c.args.out.now.items in
    let loop = c.loop-i in
    let new = c.match-entity_of in
    record {
      within = elim new.branch as (λ _. new.start ≤ loop.i + 1) [ in-Some+in_ok-push+in_ok-push-2 w ↦ let s = w.start-is in omega (arith, s) | in_default w ↦ let s = w.start-is in omega (arith, s, loop.invariant.within) ];
      so_far = elim new.branch as (λ _. new.out.items ++ drop new.start (take (loop.i + 1) text) ≡ before ++ spec.escaped (take (loop.i + 1) text)) [ in-Some+in_ok-push+in_ok-push-2 w ↦ rw (w.start-is, w.out-is, w.in_ok-push-2.ensures, w.in_ok-push.ensures) (entity_byte text before loop.out.items w.in-Some.entity.now loop.start loop.i loop.invariant.within (omega arith) w.in-Some.ensures loop.invariant.so_far) | in_default w ↦ rw (w.start-is, w.out-is) (plain_byte text before loop.out.items loop.start loop.i loop.invariant.within (omega arith) w.in_default.ensures loop.invariant.so_far) ];
    }
