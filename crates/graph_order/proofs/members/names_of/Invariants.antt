use Rattle.std.proofs.Common.{◌≡◌, map, take}
use Rattle.graph_order.specs.declared.members.Ranked.{Ranked}
use Rattle.graph_order.proofs.members.names_of.Given as goal

abbrev pub invariant-loop-member : goal.invariant-loop-member
invariant-loop-member l = l.names.items ≡ map (λ (r : Ranked). r.node) (take l.member-index l.members)
