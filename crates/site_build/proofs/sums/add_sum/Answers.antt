use Rattle.site_build.specs.declared.ordered.Joined.{Joined}
use Rattle.site_build.proofs.Growing.{gains_none}
use Rattle.site_build.proofs.sums.add_sum.Goals as goal

pub returns-in-Plain : goal.returns-in-Plain
returns-in-Plain c = rw c.in-Plain.is (gains_none (λ (j : Joined). ⊥) c.args.made.now.keys (λ j h. h))

pub returns-in-Made : goal.returns-in-Made
returns-in-Made c = rw c.in-Made.is (gains_none (λ (j : Joined). ⊥) c.args.made.now.keys (λ j h. h))

pub returns-in_ok-add_summed-in-Summed : goal.returns-in_ok-add_summed-in-Summed
returns-in_ok-add_summed-in-Summed c = rw c.in-Summed.is c.in_ok-add_summed-in-Summed.ensures
