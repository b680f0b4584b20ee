use Rattle.std.proofs.Common.{append_assoc}
use Rattle.run_report.proofs.lines.add_refusal_name.Goals as goal

pub returns : goal.returns
returns c = rw (c.in_ok-add-2.ensures, c.in_ok-add.ensures, c.source_refusal_name.ensures, c.site_refusal_name.ensures) (append_assoc c.args.text.now.items _ _)
