use Rattle.std.proofs.Common.{sym, subst, List}
use Rattle.sd_value.specs.Order.{bytes_cmp}
use Rattle.graph_spec.specs.declared.Member.{Member}
use Rattle.live_layers.specs.Grouped.{IsGrouped}
use Rattle.live_layers.proofs.GroupLaws.{grouped_none}
use Rattle.live_layers.proofs.members.Members.new.Goals as goal

pub invariant_of-result : goal.invariant_of-result
invariant_of-result c = subst (λ (ms : List Member). IsGrouped bytes_cmp (λ (m : Member). m.collection) ms c.new-2.result)
    (sym c.new.ensures.empty) (grouped_none bytes_cmp (λ (m : Member). m.collection) c.new-2.result c.new-2.ensures)
