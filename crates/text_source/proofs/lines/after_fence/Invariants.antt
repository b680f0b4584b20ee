use Rattle.std.proofs.Common.{◌≡◌, ℕ}
use Rattle.std.specs.List.{list_any}
use Rattle.text_source.specs.Lines.{lines_of, is_fence, after_fence}
use Rattle.text_source.specs.Cuts.{lines_left}
use Rattle.text_source.specs.Scans.{now_of}
use Rattle.text_source.proofs.Left.{left_length}
use Rattle.text_source.proofs.lines.after_fence.Given as goal

abbrev pub invariant-lines : goal.invariant-lines
invariant-lines l =
    (size : ℕ) → (list_any is_fence (lines_of size l.text) ≡ list_any is_fence (lines_left size (now_of l.left)))
    × (after_fence (lines_of size l.text) ≡ after_fence (lines_left size (now_of l.left)))

abbrev pub decreases-lines : goal.decreases-lines
decreases-lines l = left_length (now_of l.left)
