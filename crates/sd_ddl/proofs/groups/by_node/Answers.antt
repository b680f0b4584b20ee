use Rattle.std.proofs.Common.{rules}
use Rattle.std.proofs.lemmas.List.Sorted.{answers_always}
use Rattle.sd_ddl.proofs.Sorted.{below, below-orders, sorted_by_node}
use Rattle.sd_ddl.proofs.groups.by_node.Goals as goal

pub returns : goal.returns
returns c =
    sorted_by_node c.args.members.now c.in_ok-sorted.sorted.items c.sort_by.new.self.items c.in_ok-sorted.ensures c.sort_by.ensures.permutation
    (c.in_ok-sort_by.ensures.sorted below below-orders (answers_always _ _ _ (λ f a r g h. search rules)))
    (c.sort_by.ensures.stable below below-orders (answers_always _ _ _ (λ f a r g h. search rules)))
