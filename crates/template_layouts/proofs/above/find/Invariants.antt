use Rattle.std.proofs.Common.{◌≡◌, drop, map}
use Rattle.template_layouts.specs.Together.{find, fragment_of}
use Rattle.template_layouts.proofs.above.find.Given as goal

abbrev pub invariant-loop-fragment : goal.invariant-loop-fragment
invariant-loop-fragment l = find (map fragment_of (drop l.fragment-index l.fragments)) l.name ≡ find (map fragment_of l.fragments) l.name
