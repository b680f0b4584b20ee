use Rattle.std.proofs.Common.{◌≤◌, sym, length, None}
use Rattle.text_source.specs.Lines.{lines_of, before_fence}
use Rattle.text_source.specs.Front.{said}
use Rattle.text_source.specs.Scans.{now_of}
use Rattle.text_source.proofs.Left.{left_within}
use Rattle.text_source.proofs.Saying.{after_line}
use Rattle.text_source.proofs.front.read_front.Goals as goal

pub lines-preserved : goal.lines-preserved
lines-preserved c =
    let rest = c.in-Some.rest.now in
    let size = c.args.size in
    let within : length rest ≤ size = rw c.in-Some.is at c.lines.invariant.0 in
    let so_far = rw c.in-Some.is at c.lines.invariant.1 in
    let (more, says, new_is, below_is) = c.in_ok-above.ensures in (
      left_within c.cut.result.1 (length rest) size c.cut.ensures.shorter within,
      after_line size c.args.said.now.items c.lines.said.items c.take_line.new.said.items (said None (before_fence (lines_of size c.args.text.now)))
          (now_of c.lines.above) (now_of c.in_ok-above.above) rest c.cut.result.0.now (now_of c.cut.result.1) more so_far (c.cut.ensures.cuts size) (sym c.if-is_fence.ensures) says new_is below_is,
    )
