use Rattle.std.proofs.Common.{◌≡◌}
use Rattle.tcp_wire.proofs.Sockets.draw.Given as goal

abbrev pub invariant-loop : goal.invariant-loop
invariant-loop g l = l.self ≡ l.fn.self
