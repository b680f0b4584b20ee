-- The command `replay`: the pages of a site over the events of a script.
use Rattle.std.specs.Prelude.{◌≡◌, ◌≢◌, ◌⊎◌, ℕ, Bool, true, false, List, [], take, All, IfSome, IsSome, ⊤}
use Rattle.std.specs.Prelude.{Option, Some, Ok, Err}
use Rattle.std.specs.List.{list_any}
use Rattle.edge_io.specs.Sink.{Gains, GainsPart}
use Rattle.wire.specs.Accounts.{Account}
use Rattle.wire.specs.Told.{WireReport}
use Rattle.happenings.specs.declared.event.WireEvent.{WireEvent}
use Rattle.happenings.specs.declared.event.WireEvent.TheVariants.{Opened, Bytes, Ended, Lost, Change, Done}
use Rattle.serving_spec.specs.declared.HubEnd.{HubEnd}
use Rattle.serving_spec.specs.declared.HubEnd.TheVariants as end
use Rattle.run_report.specs.declared.status.Status.{Status}
use Rattle.run_report.specs.declared.status.Status.TheVariants as status
use Rattle.command_spec.specs.declared.RunLimits.{RunLimits}
use Rattle.command_spec.specs.declared.ReplayCommand.{ReplayCommand}
use Rattle.site_inputs.specs.declared.fault.Fault.{Fault}
use Rattle.site_inputs.specs.Statuses.{status_of}
use Rattle.site_inputs.specs.Outside.{Host, PutsRose}
use Rattle.serving_spec.specs.declared.Tally.{Tally}
use Rattle.serving_spec.specs.Openings.{opened_in}
use Rattle.serve_run.specs.Texts.{replay_text}
use Rattle.site_serving.specs.Served.{ServesSite}
use Rattle.serve_run.specs.Puts.{IsPut}
use Rattle.command_replay.specs.Scripts.{Scripted, ScriptedEnd}

-- nothing was sent to a connection yet
abbrev pub nothing_sent : Account
nothing_sent = []

-- the account of a connection that the event opens is reported
abbrev pub ReportsOpened : (ℕ → Option Account) → WireEvent → Type 0
ReportsOpened account (Opened number) = IsSome (account number)
ReportsOpened account (Bytes number piece) = ⊤
ReportsOpened account (Ended number) = ⊤
ReportsOpened account (Lost number) = ⊤
ReportsOpened account (Change text) = ⊤
ReportsOpened account Done = ⊤

-- a wire in memory that is to give these events and then no more, before the first of them
pub record IsFresh (events : List WireEvent) (wire : WireReport) : Type 0 where
  pub given : wire.given ≡ Some []
  pub left : wire.left ≡ Some events
  pub told_each : All (ReportsOpened wire.account) events
  pub nothing : (number : ℕ) → IfSome (wire.account number) (λ account. account ≡ nothing_sent)
  pub none_failed : (number : ℕ) → wire.faults number ≡ 0

-- the event is a text that is to change the data
abbrev pub is_change : WireEvent → Bool
is_change (Opened number) = false
is_change (Bytes number piece) = false
is_change (Ended number) = false
is_change (Lost number) = false
is_change (Change text) = true
is_change Done = false

-- The site was served over a wire in memory of the script's events, of which no call failed, and the text reports what each
-- connection that was opened has taken, ascending, and then the counts, those of texts only if the script has one.
pub record IsReplayed (s : Scripted) (limits : RunLimits) (ended : HubEnd)
    (text : List ℕ) : Type 0 where
  pub before : WireReport
  pub after : WireReport
  pub tally : Tally
  pub fresh : IsFresh s.events before
  pub serves : ServesSite s.site limits before after (record { end = ended; tally = tally })
  pub no_wire : ended ≢ end.WireFailed
  pub none_failed : (number : ℕ) → after.faults number ≡ 0
  pub is : text ≡ replay_text after.account (opened_in (take limits.turns s.events))
      (list_any is_change s.events) tally

-- What a run over a script has put, and why it has this status. A fault of the output doesn't change the status of a run
-- that was cut off. Where it was out of memory nothing was put.
module _ (s : Scripted) (limits : RunLimits) (old new : Option (List ℕ)) (PutsRose : Type 0) where
  -- how the run over the script ends
  abbrev pub RunEnds : Status → Type 0
  RunEnds status.Ok = (text : List ℕ) × IsReplayed s limits end.Done text × Gains old new text
  RunEnds status.WriteFault =
      (text : List ℕ) × IsReplayed s limits end.Done text × GainsPart old new text
  RunEnds status.TurnsSpent =
      (text : List ℕ) × IsReplayed s limits end.TurnsSpent text × IsPut PutsRose old new text
  RunEnds status.NoMemory = new ≡ old
  RunEnds status.WireFault = ⊥
  RunEnds (status.Refused file number place) = ⊥
  RunEnds (status.ReadFault path) = ⊥
  RunEnds status.Usage = ⊥
  RunEnds status.NotAllYes = ⊥
  RunEnds (status.FileFault path) = ⊥
  RunEnds (status.PageFault term kind) = ⊥
  RunEnds status.NotFound = ⊥

module _ (command : ReplayCommand) (before after : Host) (reached : Status) where
  -- the inputs and the script were read, and the run over them ended so
  pub record IsRun : Type 0 where
    pub script : Scripted
    pub taken : ScriptedEnd before.files command (Ok script)
    pub ends : RunEnds script command.limits before.output after.output (PutsRose before after)
        reached

  -- an input was refused or unread, or it was out of memory for one, and nothing was put
  pub record IsUnread : Type 0 where
    pub reason : Fault
    pub taken : ScriptedEnd before.files command (Err reason)
    pub its : reached ≡ status_of reason
    pub out : after.output ≡ before.output

  -- What the command `replay` has put, and why it has this status.
  abbrev pub ReplayEnds : Type 0
  ReplayEnds = IsRun ⊎ IsUnread
