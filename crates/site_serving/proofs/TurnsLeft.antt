-- Fewer events than turns never spend the turns.
use Rattle.std.proofs.Common.{◌≡◌, ◌⊎◌, ◌<◌, List, length, inl, inr}
use Rattle.std.specs.Prelude.{Some}
use Rattle.wire.specs.Told.{WireReport}
use Rattle.happenings.specs.declared.event.WireEvent.{WireEvent}
use Rattle.serving_spec.specs.declared.HubEnd.{HubEnd}
use Rattle.serving_spec.specs.declared.HubEnd.TheVariants as end
use Rattle.command_spec.specs.declared.RunLimits.{RunLimits}
use Rattle.serving_spec.specs.declared.Served.{Served}
use Rattle.serve_run.proofs.ServingLemmas.{whole_run}
use Rattle.site_inputs.specs.Sites.{Inputs}
use Rattle.site_serving.specs.Served.{ServesSite}

not_spent : (ended : HubEnd) → ended ≡ end.TurnsSpent → (ended ≡ end.Done) ⊎ (ended ≡ end.NoMemory) → ⊥
not_spent ended spent (inl done) = cc
not_spent ended spent (inr short) = cc

not_failed : (ended : HubEnd) → ended ≡ end.TurnsSpent → ended ≡ end.WireFailed → ⊥
not_failed ended spent failed = cc

pub turns_left : (s : Inputs) (limits : RunLimits) (before after : WireReport) (served : Served) (events : List WireEvent)
    → before.left ≡ Some events → length events < limits.turns → ServesSite s limits before after served
    → served.end ≡ end.TurnsSpent → ⊥
turns_left s limits before after served events told room serves spent =
    not_spent served.end spent (whole_run limits.turns events serves.1.events before.left after.left served.end told serves.1.left serves.1.ends room (not_failed served.end spent))
