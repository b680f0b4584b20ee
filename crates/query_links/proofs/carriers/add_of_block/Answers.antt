use Rattle.std.proofs.Common.{arith, refl, ap, ◌∙◌, [], ◌∷◌, ◌++◌}
use Rattle.constraint_recheck.specs.Recheck.{may_carry}
use Rattle.query_links.specs.Links.{placed, plain_links, carried}
use Rattle.query_links.proofs.Lists.{gathered_scanned, gathered_of_scanned}
use Rattle.query_links.proofs.Carried.{block_carried}
use Rattle.query_links.proofs.carriers.add_of_block.Goals as goal

pub loop-link-preserved : goal.loop-link-preserved
loop-link-preserved g c =
    let may = may_carry (g.J.Judge.tests c.args.judge.now) c.args.version c.args.function.now c.args.label.now in
    gathered_scanned (λ k. carried may (placed c.args.block.now.chain.conditions k ∷ [])) (plain_links c.args.found.now.items) (plain_links c.loop-link.found.items) (plain_links c.add.new.found.items)
    (carried may (placed c.args.block.now.chain.conditions c.link-item.result ∷ [])) c.args.block.now.links.items c.deref-link-items.result.now c.loop-link.link-index c.link-item.result c.deref-link-items.ensures.value (omega arith) c.link-item.is c.loop-link.invariant c.in_ok-add.ensures refl

pub returns : goal.returns
returns g c =
    let may = may_carry (g.J.Judge.tests c.args.judge.now) c.args.version c.args.function.now c.args.label.now in
    gathered_of_scanned (λ k. carried may (placed c.args.block.now.chain.conditions k ∷ [])) (plain_links c.args.found.now.items) (plain_links c.loop-link.found.items) c.args.block.now.links.items c.deref-link-items.result.now c.loop-link.link-index c.deref-link-items.ensures.value (omega arith) c.loop-link.invariant
    ∙ ap (λ l. plain_links c.args.found.now.items ++ l) (block_carried may c.args.block.now)
