use Rattle.std.proofs.Common.{take}
use Rattle.std.specs.BTreeMap as tree
use Rattle.sd_value.specs.Order.{bytes_cmp}
use Rattle.struql_check.specs.Known.{AreArities}
use Rattle.struql_check.proofs.functions.arities_of.Given as goal

abbrev pub invariant-loop-term : goal.invariant-loop-term
invariant-loop-term l = AreArities (take l.term-index l.terms) (tree.get bytes_cmp l.arities)
