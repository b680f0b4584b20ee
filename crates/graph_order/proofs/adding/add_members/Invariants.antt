use Rattle.std.proofs.Common.{◌≡◌, [], ◌∷◌, take}
use Rattle.std.specs.Prelude.{flat_map}
use Rattle.graph_spec.specs.declared.Member.{Member}
use Rattle.graph_order.specs.Adding.{building_of, stated_member}
use Rattle.graph_order.proofs.adding.add_members.Given as goal

abbrev pub invariant-loop-member : goal.invariant-loop-member
invariant-loop-member l = l.builder ≡ building_of l.initial.builder (flat_map (λ (x : Member). stated_member x ∷ []) (take l.member-index l.members))
