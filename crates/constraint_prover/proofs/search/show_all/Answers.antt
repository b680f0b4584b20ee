use Rattle.std.proofs.Common.{arith, sym, ◌∙◌}
use Rattle.query_blocks.specs.Blocks.{scope_of}
use Rattle.query_links.specs.Mentions.{mention_of}
use Rattle.constraint_prover.specs.Wanted.{shown_by}
use Rattle.constraint_prover.proofs.Shown.{each_more, each_left}
use Rattle.constraint_prover.proofs.search.show_all.Goals as goal

pub returns-in_default : goal.returns-in_default
returns-in_default g c =
    each_left (shown_by (g.J.Judge.tests c.args.query.now.judge.now) (scope_of c.args.query.now.blocks.now) c.args.wanted.now) mention_of c.args.found.now c.loop-mention.mention-index c.mention-item.result (omega arith) c.mention-item.is
    (sym c.in_default.is ∙ c.in_ok-proof.ensures)

pub loop-mention-preserved : goal.loop-mention-preserved
loop-mention-preserved g c =
    each_more (shown_by (g.J.Judge.tests c.args.query.now.judge.now) (scope_of c.args.query.now.blocks.now) c.args.wanted.now) mention_of c.args.found.now c.loop-mention.mention-index c.mention-item.result c.loop-mention.proofs.items c.push.new.self.items c.in-Some.proof
    (omega arith) c.mention-item.is c.in_ok-push.ensures.items c.loop-mention.invariant (sym c.in-Some.is ∙ c.in_ok-proof.ensures)
