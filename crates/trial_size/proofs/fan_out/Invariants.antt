use Rattle.std.proofs.Common.{◌≡◌, take}
use Rattle.std.specs.Prelude.{fold, filter, map, max}
use Rattle.query_spec.specs.Mentions.{same_name}
use Rattle.counterexample_spec.specs.Trial.{starting}
use Rattle.trial_size.proofs.fan_out.Given as goal

abbrev pub invariant-loop-edge : goal.invariant-loop-edge
invariant-loop-edge l =
    l.most ≡ fold max 0 (map (λ e. starting l.label e.from l.edges) (filter (λ e. same_name e.label l.label) (take l.edge-index l.edges)))
