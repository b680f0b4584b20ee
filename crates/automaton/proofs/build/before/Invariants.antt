use Rattle.std.proofs.Common.{ℕ, ◌<◌, ◌↔◌}
use Rattle.automaton.specs.PositionSet.{Has}
use Rattle.automaton.specs.Table.{row}
use Rattle.automaton.proofs.build.before.Given as goal

abbrev pub invariant-loop-q : goal.invariant-loop-q
invariant-loop-q l = (q : ℕ) → Has l.set q ↔ ((q < l.q) × Has (row l.rows.items q) l.p)
