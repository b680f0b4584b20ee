-- A replay ends well, unless it is out of memory, where its inputs are accepted and nothing outside fails.
use Rattle.std.specs.Prelude.{◌≡◌, ◌<◌, length, Ok, Err}
use Rattle.run_report.specs.declared.status.Status.{Status}
use Rattle.run_report.specs.declared.status.Status.TheVariants as status
use Rattle.command_spec.specs.declared.ReplayCommand.{ReplayCommand}
use Rattle.command_spec.specs.Inputs.{replay_paths}
use Rattle.site_inputs.specs.declared.fault.Fault.{Fault}
use Rattle.site_inputs.specs.Runs.{IsDecidedFault}
use Rattle.site_inputs.specs.Statuses.{ReadRose, status_of}
use Rattle.site_inputs.specs.Outside.{Host, PutsRose, AllRead, HasStatus}
use Rattle.command_replay.specs.Scripts.{Scripted, ScriptedEnd}
use Rattle.command_replay.specs.Ends.{ReplayEnds}

module _ (command : ReplayCommand) (before after : Host) (reached : Status) where
  -- Where the inputs and the script are read, they decide how a replay ends that nothing outside fails.
  pub record ReplayFollows : Type 0 where
    pub accepted : (s : Scripted)
        → ScriptedEnd before.files command (Ok s) → length s.events < command.limits.turns
        → ¬ PutsRose before after → HasStatus status.Ok reached
    pub refused : (reason : Fault)
        → ScriptedEnd before.files command (Err reason) → IsDecidedFault reason
        → HasStatus (status_of reason) reached

  -- the law of the command
  abbrev pub ReplayEndsWell : Type 0
  ReplayEndsWell =
      ReplayEnds command before after reached
      → ReadRose (replay_paths command) before.failed_reads after.failed_reads reached
      → (reached ≡ status.WriteFault → PutsRose before after)
      → AllRead (replay_paths command) before after
      → ReplayFollows
