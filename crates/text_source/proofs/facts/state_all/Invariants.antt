use Rattle.std.proofs.Common.{length, map}
use Rattle.sd_graph.specs.StatingLaws.{Continues}
use Rattle.text_source.specs.Text.{step_of}
use Rattle.text_source.proofs.facts.state_all.Given as goal

abbrev pub invariant-facts : goal.invariant-facts
invariant-facts l = Continues l.fn.graph (map (step_of l.stem) l.facts) l.graph (map (step_of l.stem) l.rest)

abbrev pub decreases-facts : goal.decreases-facts
decreases-facts l = length l.rest
