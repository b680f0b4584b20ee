use Rattle.std.proofs.Common.{◌↔◌, List, ◌∙◌, arith, subst}
use Rattle.std.specs.Prelude.{Contains}
use Rattle.std.proofs.lemmas.List.{take_all}
use Rattle.sd_value.specs.Names.{Name}
use Rattle.site_lint.proofs.links.set_of.Goals as goal

pub returns : goal.returns
returns c = λ n.
    subst (λ (l : List Name). Contains c.of.result n ↔ Contains l n) (c.loop-name.invariant ∙ take_all c.loop-name.name-index c.args.names.now (omega arith)) (c.of.ensures n)
