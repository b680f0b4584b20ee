use Rattle.std.proofs.Common.{◌↔◌, drop}
use Rattle.automaton.specs.Table.{HasWord}
use Rattle.automaton.proofs.Words.{Finish}
use Rattle.automaton.proofs.tables.Automaton.accepts.Given as goal

abbrev pub invariant-loop-k : goal.invariant-loop-k
invariant-loop-k l = HasWord l.self l.word ↔ Finish l.self l.current (drop l.k l.word)
