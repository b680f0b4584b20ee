use Rattle.std.proofs.Common.{arith, ◌≡◌, length}
use Rattle.candidate_values.proofs.Parts.{sifted-init, sifted-step, sifted-end}
use Rattle.candidate_values.proofs.domain.within.Goals as goal

pub loop-value-init : goal.loop-value-init
loop-value-init g c = rw c.in_ok-kept.ensures.items (sifted-init _ _)

pub loop-value-preserved : goal.loop-value-preserved
loop-value-preserved g c = sifted-step _ _ _ _ _ _ _ _ c.loop-value.invariant c.in-Some.ensures.items c.in_domain-good.ensures c.in_ok-keep_if.ensures

pub returns : goal.returns
returns g c = let empty : length c.loop-value.values.items ≡ 0 = omega (arith, c.loop-value.values.ok, c.in_default.ensures.cases.0) in sifted-end _ _ _ _ c.loop-value.invariant empty
