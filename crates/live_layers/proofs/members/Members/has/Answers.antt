use Rattle.std.proofs.Common.{sym, subst, List}
use Rattle.std.specs.Prelude.{◌↔◌, IsTrue, Contains}
use Rattle.graph_spec.specs.declared.Member.{Member}
use Rattle.graph_spec.specs.Orders.{member_cmp, member_cmp-total, member_cmp-exact}
use Rattle.live_layers.proofs.GroupLaws.{any_is}
use Rattle.live_layers.proofs.members.Members.has.Goals as goal

pub returns : goal.returns
returns c = subst (λ (es : List Member). IsTrue c.contains.result ↔ Contains es c.args.member.now) c.self.view_is
    (subst (λ b. IsTrue b ↔ Contains c.self.inside.all.keys c.args.member.now) (sym c.contains.ensures)
    (any_is member_cmp member_cmp-total member_cmp-exact c.args.member.now c.self.inside.all.keys))
