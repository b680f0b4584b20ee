use Rattle.candidate_values.proofs.Kept.{one_more}
use Rattle.candidate_values.proofs.reaches.put.Goals as goal

pub returns : goal.returns
returns c G goals d kept right = one_more G goals d c.args.lists.now c.insert.new.self c.args.key c.args.values c.in_ok-insert.ensures.updates.0 kept right
