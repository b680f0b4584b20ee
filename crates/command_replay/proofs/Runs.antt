-- How a replay ends, from how its parts end.
use Rattle.std.proofs.Common.{◌≡◌, ℕ, List, subst}
use Rattle.std.specs.Prelude.{Option}
use Rattle.serving_spec.specs.declared.HubEnd.{HubEnd}
use Rattle.serving_spec.specs.declared.HubEnd.TheVariants as end
use Rattle.run_report.specs.declared.status.Status.{Status}
use Rattle.run_report.specs.declared.status.Status.TheVariants as status
use Rattle.command_spec.specs.declared.RunLimits.{RunLimits}
use Rattle.site_inputs.specs.Statuses.{IsSilent}
use Rattle.serve_run.specs.Puts.{EndPuts}
use Rattle.command_replay.specs.Scripts.{Scripted}
use Rattle.command_replay.specs.Ends.{IsReplayed, RunEnds}

module _ (s : Scripted) (limits : RunLimits) (ended : HubEnd) (text : List ℕ) (replayed : IsReplayed s limits ended text) (old new : Option (List ℕ)) (P : Type 0) where
  as_ended : (other : HubEnd) → ended ≡ other → IsReplayed s limits other text
  as_ended other is = subst (λ (e : HubEnd). IsReplayed s limits e text) is replayed

  pub run_ends : (reached : Status) → EndPuts ended text old new P reached → RunEnds s limits old new P reached
  run_ends status.Ok h = (text, as_ended end.Done h.0, h.1)
  run_ends status.WriteFault h = (text, as_ended end.Done h.0, h.1)
  run_ends status.WireFault h = replayed.no_wire h.0
  run_ends status.TurnsSpent h = (text, as_ended end.TurnsSpent h.0, h.1)
  run_ends status.NoMemory h = h.1
  run_ends status.Usage h = h
  run_ends status.NotAllYes h = h
  run_ends status.NotFound h = h
  run_ends (status.Refused file number place) h = h
  run_ends (status.ReadFault path) h = h
  run_ends (status.FileFault path) h = h
  run_ends (status.PageFault term kind) h = h

-- a run that was begun ends with none of the statuses of an input, nor with that of wrong words
module _ (s : Scripted) (limits : RunLimits) (old new : Option (List ℕ)) (P : Type 0) where
  pub never_silent : (reached : Status) → RunEnds s limits old new P reached → IsSilent reached → ⊥
  never_silent status.Ok h quiet = quiet
  never_silent status.WriteFault h quiet = quiet
  never_silent status.WireFault h quiet = quiet
  never_silent status.TurnsSpent h quiet = quiet
  never_silent status.NoMemory h quiet = quiet
  never_silent status.Usage h quiet = h
  never_silent status.NotAllYes h quiet = quiet
  never_silent status.NotFound h quiet = h
  never_silent (status.Refused file number place) h quiet = h
  never_silent (status.ReadFault path) h quiet = h
  never_silent (status.FileFault path) h quiet = h
  never_silent (status.PageFault term kind) h quiet = h

  pub never_usage : (reached : Status) → RunEnds s limits old new P reached → reached ≡ status.Usage → ⊥
  never_usage reached h is = subst (RunEnds s limits old new P) is h

  pub never_wire : (reached : Status) → RunEnds s limits old new P reached → reached ≡ status.WireFault → ⊥
  never_wire reached h is = subst (RunEnds s limits old new P) is h
