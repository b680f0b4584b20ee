use Rattle.std.proofs.Common.{◌≡◌, ◌+◌, ◌*◌, ◌<◌, ◌≤◌, [], ◌∷◌, length, get_or, drop, subst, arith}
use Rattle.std.proofs.lemmas.List.{length-drop, drop_all}
use Rattle.std.proofs.lemmas.List.Elements.{All-push}
use Rattle.address.proofs.Targets.{first_here, three_here}
use Rattle.address.proofs.Parsed.{IsLeft, nothing_left, plain_taken, escape_taken}
use Rattle.address.proofs.argument.unescaped.Goals.{else-text-at-eq126-via-then-text-at-eq126+else-text-at-gt2, else-text-at-eq126-via-else-text-at-eq126}
use Rattle.address.proofs.argument.unescaped.Goals as goal

pub loop-at-preserved-then-text-at-gt2 : goal.loop-at-preserved-then-text-at-gt2
loop-at-preserved-then-text-at-gt2 c =
    let t = c.args.text.now in
    let i = c.loop-at.at in
    let h = c.hex_value.result in
    let l = c.hex_value-then-text-at-gt2.result in
    let d = three_here t i (omega (arith, c.if-text-at-gt2.true)) in
    record {
      within = omega (arith, c.if-text-at-gt2.true);
      left = rw c.in_ok-push.ensures.items (escape_taken t c.loop-at.bytes.items (get_or t i 0) (get_or t (i + 1) 0) (get_or t (i + 2) 0) h l (drop (i + 3) t) c.if-text-at-eq126.true c.hex_value.ensures.is c.hex_value-then-text-at-gt2.ensures.is (subst (IsLeft t c.loop-at.bytes.items) d c.loop-at.invariant.left));
      bytes = rw c.in_ok-push.ensures.items (All-push (λ b. b < 256) c.loop-at.bytes.items (16 * h + l) c.loop-at.invariant.bytes (omega (arith, c.hex_value.ensures.small, c.hex_value-then-text-at-gt2.ensures.small)));
    }

pub loop-at-preserved : goal.loop-at-preserved
loop-at-preserved c =
    let t = c.args.text.now in
    let i = c.loop-at.at in
    let x = get_or t i 0 in
    let short : x ≡ 126 → length (drop (i + 1) t) ≤ 1 = elim c.else-text-at-eq126.branch as (λ _. x ≡ 126 → length (drop (i + 1) t) ≤ 1) [ else-text-at-eq126-via-then-text-at-eq126+else-text-at-gt2 w ↦ λ e. omega (arith, w.if-text-at-gt2.false, length-drop (i + 1) t) | else-text-at-eq126-via-else-text-at-eq126 w ↦ λ e. absurd (w.if-text-at-eq126.false e) ] in
    let d = first_here t i c.loop-at-test.true in
    record {
      within = omega (arith, c.loop-at-test.true);
      left = rw c.in_ok-push-2.ensures.items (plain_taken t c.loop-at.bytes.items x (drop (i + 1) t) short (subst (IsLeft t c.loop-at.bytes.items) d c.loop-at.invariant.left));
      bytes = rw c.in_ok-push-2.ensures.items (All-push (λ b. b < 256) c.loop-at.bytes.items x c.loop-at.invariant.bytes (omega (arith, c.type_inv.text i)));
    }

pub returns-clause-is : goal.returns-clause-is
returns-clause-is c = nothing_left c.args.text.now c.loop-at.bytes.items (drop c.loop-at.at c.args.text.now) (drop_all c.loop-at.at c.args.text.now c.loop-at-test.false) c.loop-at.invariant.left
