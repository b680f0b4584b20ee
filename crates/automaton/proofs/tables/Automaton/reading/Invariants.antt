use Rattle.std.proofs.Common.{ℕ, ◌<◌, ◌↔◌}
use Rattle.automaton.specs.PositionSet.{Has}
use Rattle.automaton.specs.Positions.{ReadsIn}
use Rattle.automaton.proofs.tables.Automaton.reading.Given as goal

abbrev pub invariant-loop-p : goal.invariant-loop-p
invariant-loop-p l =
    (q : ℕ) → Has l.kept q ↔ ((q < l.p) × Has l.set q × ReadsIn l.self-inside.letters.items q l.label)
