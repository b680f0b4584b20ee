use Rattle.std.proofs.Common.{◌≡◌, ◌<◌, ℕ}
use Rattle.std.specs.Prelude.{slice_get, Some}
use Rattle.sd_value.specs.declared.Value.{Value}
use Rattle.condition_tests.specs.Known.{IsCandidate, is_arc}
use Rattle.bindings.proofs.search.are_in_domains.Given as goal

abbrev pub invariant-loop-slot : goal.invariant-loop-slot
invariant-loop-slot g l = (k : ℕ) (v : Value) → k < l.slot → slice_get l.current k ≡ Some (Some v) → IsCandidate (g.S.Store.graph l.store) (is_arc l.arcs k) v
