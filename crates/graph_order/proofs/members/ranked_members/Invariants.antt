use Rattle.std.proofs.Common.{◌≡◌, map, take}
use Rattle.std.specs.Prelude.{filter}
use Rattle.graph_spec.specs.declared.Member.{Member}
use Rattle.order_spec.specs.Order.{same}
use Rattle.graph_order.specs.Keys.{ranked_by}
use Rattle.graph_order.proofs.members.ranked_members.Given as goal

abbrev pub invariant-loop-member : goal.invariant-loop-member
invariant-loop-member l =
    l.members.items ≡ map (ranked_by l.descend l.known.by_fold l.known.graph.now l.known.word.now)
    (map (λ (m : Member). m.node) (filter (λ (m : Member). same m.collection l.collection) (take l.member-index l.known.graph.now.members)))
