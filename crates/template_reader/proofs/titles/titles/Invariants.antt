use Rattle.std.proofs.Common.{◌≡◌, ◌++◌, length}
use Rattle.template_reader.specs.Faults.{titles}
use Rattle.template_reader.proofs.titles.titles.Given as goal

abbrev pub invariant-items : goal.invariant-items
invariant-items l = l.found.items ++ titles l.rest ≡ titles l.items

abbrev pub decreases-items : goal.decreases-items
decreases-items l = length l.rest
