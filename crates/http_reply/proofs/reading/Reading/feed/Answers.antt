use Rattle.std.proofs.Common.{arith, inl, inr, subst, sym, ◌∙◌}
use Rattle.http_reply.proofs.FeedLemmas.{refused, kept_cleared, held_cleared, Starts, starts_cleared, starts_kept}
use Rattle.http_reply.proofs.reading.Reading.feed.Goals.{then-is_some, else-is_some}
use Rattle.http_reply.proofs.reading.Reading.feed.Goals as goal
use Rattle.http_reply.specs.declared.reading.Reading.TheInside.{Inside}

pub loop-i-init : goal.loop-i-init
loop-i-init c =
    let Family : Inside → Type 0 = λ s. Starts s.buffer c.args.self.now in
    elim c.if-is_some.branch [
      | then-is_some w ↦
          let cleared = w.clear.ensures in
          subst Family (sym w.self-inside-is) (starts_cleared w.clear.new.self c.args.self.now c.self.inside.buffer.bytes.items c.self.inside.buffer.target
          (omega (arith, c.self.invariant.0, cleared.room)) cleared.bytes cleared.started cleared.target
          (sym c.is_some.ensures ∙ w.if-is_some.true) c.self.view_is)
      | else-is_some w ↦
          subst Family (sym w.self-inside-is) (starts_kept c.self.inside.buffer c.args.self.now c.self.invariant.0
          (sym c.is_some.ensures ∙ w.if-is_some.false) c.self.view_is c.self.invariant.1)
    ]

pub invariant_of-self-in-Unfinished-2 : goal.invariant_of-self-in-Unfinished-2
invariant_of-self-in-Unfinished-2 c =
    let cleared = c.refuse.ensures in
    (omega (arith, c.add.ensures.room), kept_cleared _ _ _ cleared.bytes cleared.started cleared.target)

pub returns-in-Unfinished-2-clause-fed : goal.returns-in-Unfinished-2-clause-fed
returns-in-Unfinished-2-clause-fed c =
    let cleared = c.refuse.ensures in
    refused c.args.hosts.now c.args.self.now.rest c.args.piece.now _ _ c.loop-i.i _ _ c.loop-i-test.true c.loop-i.invariant.3 c.add.ensures.bytes
    c.in-Unfinished-2.ensures.parsed (inl (omega arith)) cleared.fed (held_cleared _ _ cleared.bytes cleared.target)

pub invariant_of-self-in-Impossible : goal.invariant_of-self-in-Impossible
invariant_of-self-in-Impossible c =
    let cleared = c.refuse-in-Impossible.ensures in
    (omega (arith, c.add.ensures.room), kept_cleared _ _ _ cleared.bytes cleared.started cleared.target)

pub returns-in-Impossible-clause-fed : goal.returns-in-Impossible-clause-fed
returns-in-Impossible-clause-fed c =
    let cleared = c.refuse-in-Impossible.ensures in
    refused c.args.hosts.now c.args.self.now.rest c.args.piece.now _ _ c.loop-i.i _ _ c.loop-i-test.true c.loop-i.invariant.3 c.add.ensures.bytes
    c.in-Impossible.ensures.parsed.0 (inr c.in-Impossible.ensures.parsed.1) cleared.fed (held_cleared _ _ cleared.bytes cleared.target)
