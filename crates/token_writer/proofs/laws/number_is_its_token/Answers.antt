use Rattle.std.proofs.Common.{arith}
use Rattle.token_writer.proofs.Numbers.{number_spells}
use Rattle.token_writer.proofs.laws.number_is_its_token.Goals as goal

pub returns : goal.returns
returns c = number_spells c.args.n (omega (arith, c.ranges.n))
