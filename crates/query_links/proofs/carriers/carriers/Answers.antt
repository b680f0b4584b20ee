use Rattle.std.proofs.Common.{arith, refl, ◌∙◌, []}
use Rattle.query_blocks.specs.Blocks.{body_of}
use Rattle.constraint_spec.specs.Placed.{body_links}
use Rattle.constraint_recheck.specs.Recheck.{may_carry}
use Rattle.query_links.specs.Links.{plain_links, carried}
use Rattle.query_links.proofs.Lists.{gathered_scanned, gathered_of_scanned}
use Rattle.query_links.proofs.Carried.{query_carried}
use Rattle.query_links.proofs.carriers.carriers.Goals as goal

pub loop-block-preserved : goal.loop-block-preserved
loop-block-preserved g c =
    let may = may_carry (g.J.Judge.tests c.args.judge.now) c.args.query.now.version c.args.function.now c.args.label.now in
    gathered_scanned (λ b. carried may (body_links (body_of b))) [] (plain_links c.loop-block.found.items) (plain_links c.add_of_block.new.found.items) (carried may (body_links (body_of c.block-item.result))) c.args.query.now.blocks.items c.deref-block-items.result.now c.loop-block.block-index
    c.block-item.result c.deref-block-items.ensures.value (omega arith) c.block-item.is c.loop-block.invariant c.in_ok-add_of_block.ensures refl

pub returns : goal.returns
returns g c =
    let may = may_carry (g.J.Judge.tests c.args.judge.now) c.args.query.now.version c.args.function.now c.args.label.now in
    gathered_of_scanned (λ b. carried may (body_links (body_of b))) [] (plain_links c.loop-block.found.items) c.args.query.now.blocks.items c.deref-block-items.result.now c.loop-block.block-index c.deref-block-items.ensures.value (omega arith) c.loop-block.invariant
    ∙ query_carried may c.args.query.now
