use Rattle.std.proofs.Common.{◌≡◌, ◌≢◌, ℕ, ◌+◌, ◌<◌, List, length, take}
use Rattle.page_spec.specs.declared.Outcome.{Outcome}
use Rattle.http_spec.specs.Replies.{no_memory_bytes}
use Rattle.trial_spec.specs.Numbers.{counts_of}
use Rattle.command_trial.specs.Replies.{taken_by, AreReplied, AreAtMost}
use Rattle.command_trial.proofs.counts.count.Given as goal

abbrev pub invariant-loop-i : goal.invariant-loop-i
invariant-loop-i l = record {
  counted : (outcomes : List Outcome) → length outcomes ≡ l.connections → AreReplied l.wire outcomes → l.counts ≡ counts_of (take l.i outcomes);
  whole : (i : ℕ) → i < l.i → taken_by l.wire (i + 1) ≢ no_memory_bytes;
  few : AreAtMost l.i l.counts;
}
