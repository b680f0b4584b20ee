use Rattle.std.proofs.Common.{◌≡◌, drop}
use Rattle.template_reader.specs.Faults.{last_of}
use Rattle.template_reader.proofs.titles.last_of.Given as goal

abbrev pub invariant-loop-place : goal.invariant-loop-place
invariant-loop-place l = last_of l.found (drop l.place-index l.places) ≡ last_of 0 l.places
