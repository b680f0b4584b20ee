use Rattle.std.proofs.Common.{◌∙◌, ap, sym, subst, List}
use Rattle.std.specs.BTreeSet.{insert_key}
use Rattle.sd_value.specs.Order.{bytes_cmp}
use Rattle.sd_value.specs.OrderLaws.{bytes_cmp-total, bytes_cmp-exact}
use Rattle.graph_spec.specs.declared.Member.{Member}
use Rattle.graph_spec.specs.Orders.{member_cmp, member_cmp-total, member_cmp-exact}
use Rattle.live_layers.specs.Grouped.{IsGrouped, IsNear}
use Rattle.live_layers.proofs.GroupLaws.{on_err, near_itself, near_same, near_with, grouped_with}
use Rattle.live_layers.proofs.members.insert.Goals as goal

pub returns-in_err-copied-clause-some : goal.returns-in_err-copied-clause-some
returns-in_err-copied-clause-some c = on_err {P = IsNear bytes_cmp (λ (m : Member). m.collection) c.args.member.now
    c.args.all.now.keys c.args.groups.now} _
    (near_itself bytes_cmp bytes_cmp-total bytes_cmp-exact member_cmp member_cmp-total member_cmp-exact
    (λ (m : Member). m.collection) c.args.member.now c.args.all.now.keys c.args.groups.now c.requires)

pub returns-in_err-put-clause-some : goal.returns-in_err-put-clause-some
returns-in_err-put-clause-some c = on_err {P = IsNear bytes_cmp (λ (m : Member). m.collection) c.args.member.now
    c.args.all.now.keys c.put.new.self} _
    (near_same bytes_cmp bytes_cmp-total bytes_cmp-exact member_cmp member_cmp-total member_cmp-exact
    (λ (m : Member). m.collection) c.args.member.now c.args.all.now.keys c.args.groups.now c.put.new.self c.requires
    c.put.ensures.others c.in_err-put.ensures.kept)

pub returns-in_err-insert-clause-some : goal.returns-in_err-insert-clause-some
returns-in_err-insert-clause-some c = on_err {P = IsNear bytes_cmp (λ (m : Member). m.collection) c.args.member.now
    c.args.all.now.keys c.put.new.self} _
    (near_with bytes_cmp bytes_cmp-total bytes_cmp-exact member_cmp member_cmp-total member_cmp-exact
    (λ (m : Member). m.collection) c.args.member.now c.args.all.now.keys c.put.new.self
    (grouped_with bytes_cmp bytes_cmp-total bytes_cmp-exact member_cmp member_cmp-total member_cmp-exact
    (λ (m : Member). m.collection) c.args.member.now c.args.all.now.keys c.args.groups.now c.put.new.self c.requires
    c.in_ok-put.ensures.here c.put.ensures.others))

pub returns-clause-grouped : goal.returns-clause-grouped
returns-clause-grouped c = subst (λ (ms : List Member). IsGrouped bytes_cmp (λ (m : Member). m.collection) ms c.put.new.self)
    (sym (c.in_ok-insert.ensures.keys ∙ ap (insert_key member_cmp c.args.all.now.keys) c.in_ok-copied.ensures))
    (grouped_with bytes_cmp bytes_cmp-total bytes_cmp-exact member_cmp member_cmp-total member_cmp-exact
    (λ (m : Member). m.collection) c.args.member.now c.args.all.now.keys c.args.groups.now c.put.new.self c.requires
    c.in_ok-put.ensures.here c.put.ensures.others)
