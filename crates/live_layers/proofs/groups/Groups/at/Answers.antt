use Rattle.std.proofs.Common.{◌≡◌, [], rules, sym, subst}
use Rattle.std.specs.List.Sorted.{IsStrictlySortedBy}
use Rattle.live_layers.specs.Grouped.{group}
use Rattle.live_layers.proofs.GroupLaws.{nothing_ascends}
use Rattle.live_layers.proofs.groups.Groups.at.Goals as goal

pub returns-in-None-clause-ascend : goal.returns-in-None-clause-ascend
returns-in-None-clause-ascend g c =
    let none : group g.K.Ord.cmp c.args.self.now c.args.key.now ≡ [] = search rules in
    subst (IsStrictlySortedBy g.E.Ord.cmp) (sym none) (nothing_ascends g.E.Ord.cmp)
