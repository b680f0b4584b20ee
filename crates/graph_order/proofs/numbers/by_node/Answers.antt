use Rattle.std.proofs.Common.{List, subst}
use Rattle.std.specs.Prelude.{Contains}
use Rattle.sd_value.specs.Ascending.{ListsExactly}
use Rattle.graph_order.specs.Numbers.{numbered_cmp}
use Rattle.graph_order.specs.declared.numbers.Numbered.{Numbered}
use Rattle.graph_order.proofs.numbers.by_node.Goals as goal

pub returns : goal.returns
returns c =
    subst (λ (ms : List Numbered). ListsExactly numbered_cmp (Contains ms) c.sort_and_dedup.new.items.items) c.in_ok-members.ensures c.sort_and_dedup.ensures
