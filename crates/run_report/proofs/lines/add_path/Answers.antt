use Rattle.std.proofs.Common.{append_assoc}
use Rattle.run_report.proofs.lines.add_path.Goals as goal

pub returns : goal.returns
returns c = rw (c.in_ok-add-2.ensures, c.in_ok-add.ensures, c.bytes.ensures) (append_assoc c.args.text.now.items _ c.args.path.now)
