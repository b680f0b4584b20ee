use Rattle.command_explain.proofs.Texts.{appended_block}
use Rattle.command_explain.proofs.block.explain_block.Goals as goal

pub returns : goal.returns
returns g c =
    appended_block (g.S.Store.graph c.args.store.now) c.args.path.now c.bytes.result.now c.args.chain.now c.args.out.now.items c.put.new.out.items c.put-2.new.out.items c.put-3.new.out.items c.put_steps.new.out.items
    c.in_ok-steps.steps c.steps-2.result.now c.in_ok-counts.counts c.deref.result.now c.in_ok-bound.bound.items c.variables.result.now
    c.in_ok-counts.ensures c.in_ok-steps.ensures.plan c.deref.ensures.value c.in_ok-bound.ensures c.variables.ensures c.in_ok-put.ensures c.in_ok-put-2.ensures c.bytes.ensures c.in_ok-put-3.ensures c.steps-2.ensures c.in_ok-put_steps.ensures
