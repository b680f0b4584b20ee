use Rattle.file_list.proofs.Lines.{name_pushed}
use Rattle.file_list.proofs.names.names_in.Goals as goal

pub loop-line-preserved : goal.loop-line-preserved
loop-line-preserved c = name_pushed (λ line. line.now) c.args.lines.now c.loop-line.line-index _ c.loop-line.names.items c.push_name.new.names.items c.loop-line-test.true c.loop-line.invariant c.in_ok-push_name.ensures
