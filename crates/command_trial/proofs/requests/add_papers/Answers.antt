use Rattle.std.proofs.Common.{◌∷◌, [], codes, ap, ◌∙◌}
use Rattle.sd_value.specs.declared.Datum.TheVariants.{Node}
use Rattle.command_trial.proofs.Lists.{pushed_paper}
use Rattle.command_trial.proofs.requests.add_papers.Goals as goal

pub loop-made-preserved : goal.loop-made-preserved
loop-made-preserved c =
    pushed_paper c.args.targets.now.items c.loop-made.targets.items c.add_address.new.targets.items c.in_ok-page.page c.loop-made.made c.loop-made.invariant
    (c.in_ok-page.ensures ∙ ap (λ name. record { function = codes "PaperPage"; args = Node name ∷ [] }) c.in_ok-node.ensures) c.in_ok-add_address.ensures
