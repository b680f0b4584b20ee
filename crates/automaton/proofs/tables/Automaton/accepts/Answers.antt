use Rattle.std.proofs.Common.{rules, ◌<◌, ◌+◌, length, drop}
use Rattle.automaton.proofs.Words.{begins_word, reads_on, drop_word}
use Rattle.automaton.proofs.tables.Automaton.accepts.Goals as goal

pub loop-k-init : goal.loop-k-init
loop-k-init c =
    let word = c.args.word.now in
    let small : 0 < length word = search rules in
    begins_word c.args.self.now word (drop 1 word) c.index-word-0.result c.reading-current.result
    (drop_word word 0 _ small c.index-word-0.is) (rw (← c.begins.ensures) c.reading-current.ensures)

pub loop-k-preserved : goal.loop-k-preserved
loop-k-preserved c =
    let word = c.args.word.now in
    let k = c.loop-k.invariant in
    let m = reads_on c.args.self.now c.index-word-k.result (drop (c.loop-k.k + 1) word) (drop c.loop-k.k word) c.loop-k.current c.after-reach.result c.reading-current-in-loop-k.result
    (drop_word word c.loop-k.k _ c.loop-k-test.true c.index-word-k.is) c.after-reach.ensures c.reading-current-in-loop-k.ensures in
    (λ h. m.0 (k.0 h), λ h. k.1 (m.1 h))
