use Rattle.std.proofs.Common.{◌≡◌, ℕ, List, [], ◌∷◌, length, refl, subst, arith}
use Rattle.std.proofs.lemmas.List.Elements.{All-push}
use Rattle.page_spec.specs.Address.{IsDatum}
use Rattle.address.proofs.Parsed.{AreLeft, one_less, no_argument, none_left}
use Rattle.address.proofs.named.arguments.Goals as goal

empty : (xs : List ℕ) → length xs ≡ 0 → xs ≡ []
empty [] e = refl
empty (x ∷ xs) e = absurd (omega (arith, e))

pub returns-in-None-clause-is : goal.returns-in-None-clause-is
returns-in-None-clause-is c =
    let t = c.args.text.now in
    let is = rw c.in-None.is at c.in_ok-argument.ensures.is in
    let left = subst (AreLeft t c.loop-after.args.items) c.in-Some.ensures.cases.0 c.loop-after.invariant.left in
    no_argument t c.loop-after.args.items c.in-Some.field-0-0.now c.in-Some.after.now c.segment.result.0.now c.segment.result.1.now left c.segment.ensures.parts c.segment.ensures.first c.segment.ensures.rest is

pub loop-after-preserved : goal.loop-after-preserved
loop-after-preserved c =
    let t = c.args.text.now in
    let d = c.in-Some-2.datum in
    let is = rw c.in-Some-2.is at c.in_ok-argument.ensures.is in
    let kind = rw c.in-Some-2.is at c.in_ok-argument.ensures.data in
    let left = subst (AreLeft t c.loop-after.args.items) c.in-Some.ensures.cases.0 c.loop-after.invariant.left in
    record {
      left = rw c.in_ok-push-in-Some-2.ensures.items (one_less t c.loop-after.args.items c.in-Some.field-0-0.now c.in-Some.after.now c.segment.result.0.now c.segment.result.1.now d left c.segment.ensures.parts c.segment.ensures.first c.segment.ensures.rest is);
      kinds = rw c.in_ok-push-in-Some-2.ensures.items (All-push IsDatum c.loop-after.args.items d c.loop-after.invariant.kinds kind);
    }

pub returns-clause-is : goal.returns-clause-is
returns-clause-is c = none_left c.args.text.now c.loop-after.args.items c.loop-after.left.now (empty c.loop-after.left.now c.in_default.ensures.cases) c.loop-after.invariant.left
