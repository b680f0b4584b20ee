use Rattle.std.proofs.Common.{◌≡◌, ℤ}
use Rattle.std.specs.Prelude.{All, take}
use Rattle.sd_value.specs.declared.Datum.TheVariants.{Int}
use Rattle.sd_value.specs.declared.Value.TheVariants.{Data}
use Rattle.graph_spec.specs.declared.Edge.{Edge}
use Rattle.ddl_laws.specs.RoundTrip.{IsI64}
use Rattle.ddl_laws.proofs.integers.integers_fit.Given as goal

abbrev pub invariant-loop-edge : goal.invariant-loop-edge
invariant-loop-edge l = All (λ (e : Edge). (n : ℤ) → e.to ≡ Data (Int n) → IsI64 n) (take l.edge-index l.edge-items)
