use Rattle.std.proofs.Common.{◌≡◌, ◌∙◌, sym, subst, List}
use Rattle.std.specs.BTreeSet.{insert_key}
use Rattle.graph_spec.specs.declared.Member.{Member}
use Rattle.graph_spec.specs.Orders.{member_cmp, member_cmp-total, member_cmp-exact}
use Rattle.sd_graph.specs.Inserted.{inserted-known}
use Rattle.sd_value.specs.Order.{bytes_cmp}
use Rattle.sd_value.specs.OrderLaws.{bytes_cmp-total, bytes_cmp-exact}
use Rattle.live_layers.specs.Grouped.{IsGrouped}
use Rattle.live_layers.proofs.GroupLaws.{any_is, grouped_without}
use Rattle.live_layers.proofs.members.Members.put.Goals as goal

pub returns-then-contains-clause-put : goal.returns-then-contains-clause-put
returns-then-contains-clause-put c =
    let there = (any_is member_cmp member_cmp-total member_cmp-exact c.args.member.now c.self.inside.all.keys).0
    (sym c.contains.ensures ∙ c.if-contains.true) in
    subst (λ (es : List Member). es ≡ insert_key member_cmp es c.args.member.now) c.self.view_is
    (sym (inserted-known member_cmp member_cmp-total c.args.member.now c.self.inside.all.keys c.len-size.ensures.ordered there))

pub invariant_of-self-in-Err : goal.invariant_of-self-in-Err
invariant_of-self-in-Err c = subst (λ (ms : List Member). IsGrouped bytes_cmp (λ (m : Member). m.collection) ms c.take.new.self)
    (sym c.in-Err.ensures.kept)
    (grouped_without bytes_cmp bytes_cmp-total bytes_cmp-exact member_cmp member_cmp-total member_cmp-exact
    (λ (m : Member). m.collection) c.args.member.now c.self.inside.all.keys c.insert.new.groups c.take.new.self
    c.in-Err.ensures.some (λ m.
    let t = (any_is member_cmp member_cmp-total member_cmp-exact c.args.member.now c.self.inside.all.keys).1 m in
    let r = c.contains.ensures in let f = c.if-contains.false in cc)
    c.take.ensures.ascend c.take.ensures.here c.take.ensures.others)
