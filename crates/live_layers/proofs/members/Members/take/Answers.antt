use Rattle.std.proofs.Common.{sym, subst, List}
use Rattle.std.specs.BTreeMap.{is_at}
use Rattle.std.specs.Set.{remove_key}
use Rattle.sd_value.specs.Order.{bytes_cmp}
use Rattle.sd_value.specs.OrderLaws.{bytes_cmp-total, bytes_cmp-exact}
use Rattle.graph_spec.specs.declared.Member.{Member}
use Rattle.graph_spec.specs.Orders.{member_cmp, member_cmp-total, member_cmp-exact}
use Rattle.live_layers.specs.Grouped.{IsGrouped}
use Rattle.live_layers.proofs.GroupLaws.{near_without, grouped_without, nothing_left}
use Rattle.live_layers.proofs.members.Members.take.Goals as goal

pub invariant_of-self : goal.invariant_of-self
invariant_of-self c = subst (λ (ms : List Member). IsGrouped bytes_cmp (λ (m : Member). m.collection) ms c.take.new.self)
    (sym c.remove.ensures.keys)
    (grouped_without bytes_cmp bytes_cmp-total bytes_cmp-exact member_cmp member_cmp-total member_cmp-exact
    (λ (m : Member). m.collection) c.args.member.now (remove_key (is_at (member_cmp c.args.member.now)) c.self.inside.all.keys)
    c.self.inside.by_collection c.take.new.self
    (near_without bytes_cmp bytes_cmp-total bytes_cmp-exact member_cmp member_cmp-total member_cmp-exact
    (λ (m : Member). m.collection) c.args.member.now c.self.inside.all.keys c.self.inside.by_collection
    c.len-size.ensures.ordered c.self.invariant)
    (nothing_left member_cmp member_cmp-total member_cmp-exact c.args.member.now c.self.inside.all.keys c.len-size.ensures.ordered)
    c.take.ensures.ascend c.take.ensures.here c.take.ensures.others)
