use Rattle.std.proofs.Common.{◌≡◌, ◌∙◌, sym, ap, Some, None}
use Rattle.text_source.specs.Scans.{now_of}
use Rattle.text_source.proofs.Splits.{no_fence, no_next, not_closed, closed}
use Rattle.text_source.proofs.lines.split.Goals as goal

pub returns-then-not-is_fence-clause-splits : goal.returns-then-not-is_fence-clause-splits
returns-then-not-is_fence-clause-splits c = λ size. no_fence size c.args.text.now c.cut.result.0.now (now_of c.cut.result.1) (c.cut.ensures.cuts size) (sym c.if-not-is_fence.ensures)

pub returns-in_default-clause-splits : goal.returns-in_default-clause-splits
returns-in_default-clause-splits c = λ size. no_next size c.args.text.now c.cut.result.0.now (rw c.in_default.is at (c.cut.ensures.cuts size))

pub returns-in-None-clause-splits : goal.returns-in-None-clause-splits
returns-in-None-clause-splits c = λ size. not_closed size c.args.text.now c.cut.result.0.now c.in-Some.lines.now (rw c.in-Some.is at (c.cut.ensures.cuts size)) (c.in-None.ensures size)

pub returns-in-Some-Some-clause-splits : goal.returns-in-Some-Some-clause-splits
returns-in-Some-Some-clause-splits c = λ size. closed size c.args.text.now c.cut.result.0.now c.in-Some.lines.now (Some c.in-Some-Some.own.now) (rw c.in-Some.is at (c.cut.ensures.cuts size)) (sym c.if-not-is_fence.ensures) (rw c.in-Some-Some.field-0-is at (c.in-Some-Some.ensures size))
