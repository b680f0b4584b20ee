use Rattle.std.proofs.Common.{refl}
use Rattle.std.proofs.lemmas.Option.{slice_get_read}
use Rattle.condition_tests.proofs.Equal.{equals-none, equals-more, equals-all}
use Rattle.condition_tests.proofs.compare.equals_of_any.Goals as goal

pub loop-constant-init : goal.loop-constant-init
loop-constant-init c = rw c.new-values.ensures.items (equals-none c.args.version)

pub loop-constant-preserved : goal.loop-constant-preserved
loop-constant-preserved c =
    equals-more c.args.version _ _ _ _ _ _ (slice_get_read _ _ _ _ refl c.loop-constant-test.true c.constant-item.is) c.loop-constant.invariant c.in_ok-equals.ensures c.in_ok-add_all.ensures

pub returns : goal.returns
returns c = equals-all c.args.version _ _ _ _ c.items-constant-items.ensures c.loop-constant-test.false c.loop-constant.invariant
