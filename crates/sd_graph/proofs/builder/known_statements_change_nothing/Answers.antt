use Rattle.sd_graph.specs.Built.{known_accepted}
use Rattle.sd_graph.proofs.builder.known_statements_change_nothing.Goals as goal

pub returns : goal.returns
returns c s b c' r = known_accepted s b c' r
