use Rattle.text_functions.proofs.Joining.{word_pushed}
use Rattle.text_functions.proofs.words.joined.Goals as goal

pub loop-word-preserved : goal.loop-word-preserved
loop-word-preserved c = word_pushed (λ w. w.now) c.args.mark c.args.words.now c.loop-word.word-index _ c.loop-word.text.items c.push_word.new.text.items c.loop-word-test.true c.loop-word.invariant c.in_ok-push_word.ensures
