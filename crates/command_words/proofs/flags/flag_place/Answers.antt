use Rattle.std.proofs.Common.{◌∙◌, sym}
use Rattle.command_words.proofs.FlagWords.{text_more, text_dashes, text_flag}
use Rattle.command_words.proofs.flags.flag_place.Goals as goal

pub returns-then-eq-clause-place : goal.returns-then-eq-clause-place
returns-then-eq-clause-place c =
    text_dashes c.args.flag.now c.args.words.now c.loop-i.i _ c.loop-i-test.true c.loop-i.invariant (sym c.eq.ensures ∙ c.if-eq.true)

pub returns-then-eq-2-clause-place : goal.returns-then-eq-2-clause-place
returns-then-eq-2-clause-place c =
    text_flag c.args.flag.now c.args.words.now c.loop-i.i _ c.loop-i-test.true c.loop-i.invariant (sym c.eq.ensures ∙ c.if-eq.false) (sym c.eq-in-loop-i.ensures ∙ c.if-eq-2.true)

pub loop-i-preserved : goal.loop-i-preserved
loop-i-preserved c =
    text_more c.args.flag.now c.args.words.now c.loop-i.i _ c.loop-i-test.true c.loop-i.invariant (sym c.eq.ensures ∙ c.if-eq.false) (sym c.eq-in-loop-i.ensures ∙ c.if-eq-2.false)
