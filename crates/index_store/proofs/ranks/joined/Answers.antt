use Rattle.std.proofs.Common.{◌≡◌, ◌∙◌, ap, length, ◌+◌, arith, subst, sym}
use Rattle.std.proofs.lemmas.List.{length_push}
use Rattle.index_store.specs.Ranks.{AreJoined}
use Rattle.index_store.proofs.JoinedLaws.{one_joined_more}
use Rattle.index_store.proofs.ranks.joined.Goals as goal

pub loop-place-preserved : goal.loop-place-preserved
loop-place-preserved c = (
  subst (AreJoined c.args.ranks.now (c.loop-place.place + 1)) (sym c.in_ok-push.ensures.items)
      (one_joined_more c.args.ranks.now c.loop-place.place c.loop-place.joined.items c.loop-place.invariant.0),
  ap length c.in_ok-push.ensures.items ∙ length_push c.loop-place.joined.items _ ∙ ap (λ n. n + 1) c.loop-place.invariant.1,
)

pub returns-clause-joined : goal.returns-clause-joined
returns-clause-joined c =
    let n : c.loop-place.place ≡ length c.args.ranks.now = omega arith in
    subst (λ k. AreJoined c.args.ranks.now k c.loop-place.joined.items) n c.loop-place.invariant.0

pub returns-clause-long : goal.returns-clause-long
returns-clause-long c =
    let n : c.loop-place.place ≡ length c.args.ranks.now = omega arith in
    c.loop-place.invariant.1 ∙ n
