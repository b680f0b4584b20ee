-- What happens in a replay, in its order: the inputs are read, the script last; and what it prints is put. Its wire is in
-- memory and its own, and what is done to it is no part of this.
use Rattle.std.specs.Prelude.{◌≡◌, ◌⊎◌, ℕ, List, [], ◌++◌, Option, Result, Ok, Err}
use Rattle.edge_io.specs.Files.{FileMap}
use Rattle.happenings.specs.Happening.{Happening}
use Rattle.happenings.specs.declared.stream.Stream.{Stream}
use Rattle.serving_spec.specs.declared.HubEnd.{HubEnd}
use Rattle.run_report.specs.declared.status.Status.{Status}
use Rattle.run_report.specs.declared.status.Status.TheVariants as status
use Rattle.command_spec.specs.Inputs.{replay_paths}
use Rattle.command_spec.specs.declared.RunLimits.{RunLimits}
use Rattle.command_spec.specs.declared.ReplayCommand.{ReplayCommand}
use Rattle.site_inputs.specs.declared.fault.Fault.{Fault}
use Rattle.site_inputs.specs.Reads.{Reads}
use Rattle.site_inputs.specs.Statuses.{status_of}
use Rattle.serve_run.specs.Puts.{EndHappens}
use Rattle.command_replay.specs.Scripts.{Scripted, ScriptedEnd}
use Rattle.command_replay.specs.Ends.{IsReplayed}

-- what a run over the script prints was put, as its end says
pub record PlaysThenPuts (s : Scripted) (limits : RunLimits) (stream : Stream)
    (part : List Happening) (reached : Status) : Type 0 where
  pub ended : HubEnd
  pub text : List ℕ
  pub replayed : IsReplayed s limits ended text
  pub puts : EndHappens ended stream text part reached

module _ (command : ReplayCommand) (stream : Stream) (contents : Option FileMap) where
  -- what was done with the inputs that were read; out of memory, and where one is refused or unread, nothing
  abbrev pub DoesWith : Result Scripted Fault → List Happening → Status → Type 0
  DoesWith (Ok s) part reached =
      PlaysThenPuts s command.limits stream part reached
      ⊎ ((reached ≡ status.NoMemory) × (part ≡ []))
  DoesWith (Err reason) part reached = (reached ≡ status_of reason) × (part ≡ [])

  -- What happened in a replay at this status, whose output is this one and whose files report this: its inputs were read,
  -- and then that was done with them.
  pub record ReplayCourse (part : List Happening) (reached : Status) : Type 0 where
    pub inputs : Result Scripted Fault
    pub reads : List Happening
    pub others : List Happening
    pub part_is : part ≡ reads ++ others
    pub read : Reads (replay_paths command) [] reads contents inputs
        (λ map. ScriptedEnd map command inputs)
    pub does : DoesWith inputs others reached
