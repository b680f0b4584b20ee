-- The events of a trial.
use Rattle.std.specs.Prelude.{ℕ, ◌+◌, List, [], ◌∷◌}
use Rattle.happenings.specs.declared.event.WireEvent.{WireEvent}
use Rattle.happenings.specs.declared.event.WireEvent.TheVariants.{Opened, Bytes, Ended}
use Rattle.trial_spec.specs.Requests.{request}

-- each target is asked for by a connection of its own; they are numbered from this number on
abbrev pub events_from : ℕ → List (List ℕ) → List WireEvent
events_from number [] = []
events_from number (target ∷ targets) =
    Opened number ∷ Bytes number (request target) ∷ Ended number
    ∷ events_from (number + 1) targets
