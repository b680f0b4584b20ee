use Rattle.std.proofs.Common.{take}
use Rattle.address.specs.Segments.{HasNoSlash}
use Rattle.address.proofs.named.segment.Given as goal

abbrev pub invariant-loop-i : goal.invariant-loop-i
invariant-loop-i l = HasNoSlash (take l.i l.text)
