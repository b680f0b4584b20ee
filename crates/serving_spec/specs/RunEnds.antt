-- Why a run ended.
use Rattle.std.specs.Prelude.{◌≡◌, ◌<◌, ◌≤◌, ℕ, false, length, List, [], ◌∷◌, ◌++◌}
use Rattle.std.specs.List.{list_any}
use Rattle.wire.specs.Events.{is_done}
use Rattle.happenings.specs.declared.event.WireEvent.{WireEvent}
use Rattle.happenings.specs.declared.event.WireEvent.TheVariants.{Done}
use Rattle.serving_spec.specs.declared.HubEnd.{HubEnd}
use Rattle.serving_spec.specs.declared.HubEnd.TheVariants.{Done as Finished, WireFailed, TurnsSpent, NoMemory}

-- why the run ended after these events
abbrev pub EndsRun : ℕ → List WireEvent → HubEnd → Type 0
EndsRun turns events Finished =
    (front : List WireEvent) × (events ≡ front ++ Done ∷ []) × (length front < turns)
    × (list_any is_done front ≡ false)
EndsRun turns events WireFailed = (length events < turns) × (list_any is_done events ≡ false)
EndsRun turns events TurnsSpent = (length events ≡ turns) × (list_any is_done events ≡ false)
EndsRun turns events NoMemory = (length events ≤ turns) × (list_any is_done events ≡ false)
