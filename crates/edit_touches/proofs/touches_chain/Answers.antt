use Rattle.std.proofs.Common.{◌≡◌, subst, Bool}
use Rattle.edit_spec.specs.Touches.{TouchesChain}
use Rattle.edit_touches.specs.Tests as tests
use Rattle.edit_touches.proofs.Decides.{Says, chain_says}
use Rattle.edit_touches.proofs.touches_chain.Goals as goal

pub returns : goal.returns
returns c =
    let is : tests.touches c.args.edit.now c.args.chain.now.variables c.args.chain.now.conditions ≡
    c.is_touched.result = cc in
    subst (λ (b : Bool). Says b (TouchesChain c.args.edit.now c.args.chain.now)) is
    (chain_says c.args.edit.now c.args.chain.now)
