use Rattle.std.proofs.Common.{◌≡◌, drop}
use Rattle.mem_wire.specs.WireInMemory.{cut_of}
use Rattle.mem_wire.proofs.cut_of.Given as goal

abbrev pub invariant-loop-send : goal.invariant-loop-send
invariant-loop-send l = cut_of (drop l.send-index l.sends) l.connection l.number ≡ cut_of l.sends l.connection l.number
