use Rattle.std.proofs.Common.{◌≡◌, drop, map}
use Rattle.tmpl.specs.Reading.{named_of}
use Rattle.edit_footprint.specs.Numbers.{number_of}
use Rattle.edit_footprint.proofs.number_of.Given as goal

abbrev pub invariant-loop-named : goal.invariant-loop-named
invariant-loop-named l = number_of l.function (map named_of (drop l.named-index l.names)) ≡ number_of l.function
    (map named_of l.names)
