use Rattle.bindings.proofs.Known.{free_count}
use Rattle.bindings.proofs.witness.+finds_first.Given as goal

abbrev pub decreases-finds_first : goal.decreases-finds_first
decreases-finds_first g l = free_count l.current.now
