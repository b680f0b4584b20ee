-- What a put adds.
use Rattle.std.proofs.Common.{ℕ, List, inl, inr}
use Rattle.std.specs.Prelude.{Option, Result, Ok, Err, OnOk, ⊤}
use Rattle.edge_io.specs.Counts.{Rose, HasCause}
use Rattle.edge_io.specs.Sink.{Gains, GainsPart}
use Rattle.serve_run.specs.Puts.{IsPut}

pub put_is : {E : Type 0} (result : Result ⊤ E) (before now : ℕ) (old new : Option (List ℕ)) (text : List ℕ)
    → OnOk result (Gains old new text) → GainsPart old new text → HasCause before now result → IsPut (Rose before now) old new text
put_is (Ok unit) before now old new text whole part cause = inl whole
put_is (Err error) before now old new text whole part cause = inr (cause.failed, part)
