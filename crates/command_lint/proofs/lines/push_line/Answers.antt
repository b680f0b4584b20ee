use Rattle.std.proofs.Common.{append_assoc}
use Rattle.command_lint.proofs.lines.push_line.Goals as goal

pub returns : goal.returns
returns c = rw (c.in_ok-push_fault_line.ensures, c.in_ok-extend_from_slice.ensures.items, c.mark_of.ensures) (append_assoc c.args.text.now.items _ _)
