use Rattle.std.proofs.Common.{arith, ◌-◌, ◌^◌}
use Rattle.trial_size.proofs.Cut.{times_cut}
use Rattle.trial_size.proofs.times.Goals as goal

pub returns : goal.returns
returns c = λ n cut. times_cut c.args.rows c.args.ways (2 ^ 64 - 1) c.saturating_mul.result n (omega arith) c.saturating_mul.ensures c.requires cut
