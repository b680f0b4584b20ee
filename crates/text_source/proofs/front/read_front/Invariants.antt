use Rattle.std.proofs.Common.{◌≡◌, ◌≤◌, ℕ, None}
use Rattle.text_source.specs.Lines.{lines_of, before_fence}
use Rattle.text_source.specs.Cuts.{lines_left}
use Rattle.text_source.specs.Front.{said}
use Rattle.text_source.specs.Scans.{now_of}
use Rattle.text_source.proofs.Left.{left_length, left_bytes, After}
use Rattle.text_source.proofs.front.read_front.Given as goal

abbrev pub invariant-lines : goal.invariant-lines
invariant-lines l =
    (left_bytes (now_of l.left) ≤ l.size)
    × After l.initial.said.items l.said.items (said None (before_fence (lines_of l.size l.text)))
    (said (now_of l.above) (before_fence (lines_left l.size (now_of l.left))))

abbrev pub decreases-lines : goal.decreases-lines
decreases-lines l = left_length (now_of l.left)
