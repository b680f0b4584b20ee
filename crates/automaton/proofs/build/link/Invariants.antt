use Rattle.std.proofs.Common.{◌≡◌, ℕ, ◌<◌, ◌≤◌, ◌⊎◌, ◌↔◌, vec_len}
use Rattle.automaton.specs.PositionSet.{Has}
use Rattle.automaton.specs.Table.{row}
use Rattle.automaton.proofs.build.link.Given as goal

abbrev pub invariant-loop-p : goal.invariant-loop-p
invariant-loop-p l = record {
  len : vec_len l.next ≡ vec_len l.initial.next;
  done : (r q : ℕ) → r < l.p → Has (row l.next.items r) q ↔ (Has (row l.initial.next.items r) q ⊎ (Has l.ones r × Has l.others q));
  rest : (r : ℕ) → l.p ≤ r → row l.next.items r ≡ row l.initial.next.items r;
}
