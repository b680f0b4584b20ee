use Rattle.std.proofs.Common.{◌≡◌, ◌-◌, length, drop}
use Rattle.graph_order.specs.Known.{IsKnown}
use Rattle.graph_order.proofs.keys.Known.by.Given as goal

abbrev pub invariant-loop-done : goal.invariant-loop-done
invariant-loop-done l =
    (l.known.by_fold ≡ l.by_fold) × (l.known.graph.now ≡ l.graph) × (l.known.word.now ≡ drop (length l.word - l.done) l.word) × IsKnown l.known
