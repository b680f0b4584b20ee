use Rattle.std.proofs.Common.{◌≡◌, subst, List}
use Rattle.std.specs.Prelude.{Contains}
use Rattle.std.specs.Option.{option_copied}
use Rattle.sd_value.specs.Order.{bytes_cmp}
use Rattle.sd_value.specs.Ascending.{ListsExactly}
use Rattle.graph_spec.specs.declared.Member.{Member}
use Rattle.graph_spec.specs.Orders.{member_cmp}
use Rattle.live_layers.specs.Grouped.{elements}
use Rattle.live_layers.proofs.GroupLaws.{group_lists}
use Rattle.live_layers.proofs.members.Members.collected.Goals as goal

pub returns : goal.returns
returns c = subst (λ (ms : List Member). ListsExactly member_cmp
    (λ (m : Member). Contains ms m × (m.collection ≡ c.args.collection.now)) (elements (option_copied c.at.result))) c.self.view_is
    (group_lists bytes_cmp member_cmp (λ (m : Member). m.collection) c.self.inside.all.keys c.self.inside.by_collection
    c.args.collection.now (λ (m : Member). Contains c.self.inside.all.keys m × (m.collection ≡ c.args.collection.now))
    c.at.result c.self.invariant c.at.ensures.ascend c.at.ensures.some c.at.ensures.none (λ e m is. (m, is)) (λ e h. h))
