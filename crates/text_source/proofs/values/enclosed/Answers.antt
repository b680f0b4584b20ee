use Rattle.std.proofs.Common.{sym, inl, inr}
use Rattle.text_source.proofs.Blanks.{both_are, not_both}
use Rattle.text_source.proofs.values.enclosed.Goals.{else-b-first-via-then-b-first+else-c-last, else-b-first-via-else-b-first}
use Rattle.text_source.proofs.values.enclosed.Goals as goal

pub returns-then-c-last : goal.returns-then-c-last
returns-then-c-last c = rw (c.in_ok-b.ensures.cases.0, c.in_ok-c.ensures.cases.0) (sym (both_are c.args.first c.args.last c.in_ok-b.b.now c.in_ok-c.inner.now c.in_ok-c.c.now c.if-b-first.true c.if-c-last.true))

pub returns-else-b-first : goal.returns-else-b-first
returns-else-b-first c = rw (c.in_ok-b.ensures.cases.0, c.in_ok-c.ensures.cases.0)
    (sym (not_both c.args.first c.args.last c.in_ok-b.b.now c.in_ok-c.inner.now c.in_ok-c.c.now
    (elim c.else-b-first.branch [
      | else-b-first-via-then-b-first+else-c-last w ↦ inr w.if-c-last.false
      | else-b-first-via-else-b-first w ↦ inl w.if-b-first.false
    ])))
