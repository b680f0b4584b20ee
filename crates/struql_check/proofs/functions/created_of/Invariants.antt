use Rattle.std.proofs.Common.{take}
use Rattle.std.specs.BTreeSet as set
use Rattle.sd_value.specs.Order.{bytes_cmp}
use Rattle.struql_check.specs.Known.{AreCreated}
use Rattle.struql_check.proofs.functions.created_of.Given as goal

abbrev pub invariant-loop-term : goal.invariant-loop-term
invariant-loop-term l = AreCreated (take l.term-index l.terms) (set.contains bytes_cmp l.created)
