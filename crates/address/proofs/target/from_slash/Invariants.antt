use Rattle.std.proofs.Common.{◌≡◌, drop}
use Rattle.page_spec.specs.Address as spec
use Rattle.address.proofs.target.from_slash.Given as goal

abbrev pub invariant-loop-i : goal.invariant-loop-i
invariant-loop-i l = spec.from_slash l.text ≡ spec.from_slash (drop l.i l.text)
