use Rattle.std.proofs.Common.{◌≡◌, drop}
use Rattle.template_reader.specs.Faults.{Seen, first_twice, nothing_seen, HoldNames}
use Rattle.template_reader.proofs.titles.first_twice.Given as goal

abbrev pub invariant-loop-title : goal.invariant-loop-title
invariant-loop-title l = (s : Seen) × HoldNames l.names s × (first_twice s (drop l.title-index l.titles) ≡ first_twice nothing_seen l.titles)
