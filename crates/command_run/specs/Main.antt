-- What a whole run is given, and what it leaves.
use Rattle.std.specs.Prelude.{◌≡◌, ◌⊎◌, ℕ, List, Option, None, Result, Ok, Err}
use Rattle.std.specs.Option.{ForSome, IsSomeAnd}
use Rattle.edge_io.specs.Counts.{Rose}
use Rattle.edge_io.specs.Files.{FileMap}
use Rattle.edge_io.specs.Sink.{Gains, GainsPart}
use Rattle.wire.specs.Told.{WireReport}
use Rattle.run_report.specs.Report.{line}
use Rattle.run_report.specs.declared.status.Status.{Status}
use Rattle.run_report.specs.declared.status.Status.TheVariants.{Usage, WriteFault, WireFault}
use Rattle.run_report.specs.declared.status.Status.TheVariants as status
use Rattle.command_spec.specs.AccessLog.{given_log}
use Rattle.command_spec.specs.Inputs.{given_inputs}
use Rattle.command_spec.specs.Waits.{given_waits}
use Rattle.command_spec.specs.Words.{command}
use Rattle.command_spec.specs.declared.Command.{Command}
use Rattle.command_spec.specs.declared.ServeWaits.{ServeWaits}
use Rattle.site_inputs.specs.Outside.{Host, Outside, host, outside, EventsRose}
use Rattle.site_inputs.specs.Statuses.{ReadRose, IsSilent}
use Rattle.command_run.specs.Complete.{IsComplete}
use Rattle.command_run.specs.Top.{RunEnds, IsExact, AnswersHold, FindingsAreTold}
use Rattle.command_run.specs.Top.{FileFaultRose, WritesNoFile, UsesNoWire}
use Rattle.command_run.specs.declared.no_words.NoWords.{NoWords}
use Rattle.command_run.specs.declared.no_words.NoWords.TheVariants.{Unreadable, NoMemory}

-- the words of a run, or why there are none
abbrev pub Words : Type 0
Words = Result (List (List ℕ)) NoWords

-- the command that they give, if any
abbrev pub command_given : Words → Option Command
command_given (Ok words) = command words
command_given (Err reason) = None

-- the status of a run that has no words
abbrev pub status_without : NoWords → Status
status_without Unreadable = Usage
status_without NoMemory = status.NoMemory

-- how long the wire of a run waits
abbrev pub waits_given : Words → ServeWaits
waits_given words = given_waits (command_given words)

-- the file that a line of each reply of a run is added to, if there is one
abbrev pub log_given : Words → Option (List ℕ)
log_given words = given_log (command_given words)

-- what a run's files, outputs and wire have at one moment
pub record Seen : Type 0 where
  pub contents : Option FileMap
  pub failed_reads : List ℕ → ℕ
  pub failed_writes : List ℕ → ℕ
  -- what was put on the output and on the standard error, where it is reported, and how often they failed
  pub output : Option (List ℕ)
  pub failed_puts : ℕ
  pub error : Option (List ℕ)
  pub failed_lines : ℕ
  pub wire : WireReport

-- these parts
abbrev pub seen
    : Option FileMap → (failed_reads failed_writes : List ℕ → ℕ) → Option (List ℕ) → ℕ
    → Option (List ℕ) → ℕ → WireReport → Seen
seen contents failed_reads failed_writes output failed_puts error failed_lines wire = record {
  contents = contents;
  failed_reads = failed_reads;
  failed_writes = failed_writes;
  output = output;
  failed_puts = failed_puts;
  error = error;
  failed_lines = failed_lines;
  wire = wire;
}

-- the files, the output and the wire, where the files report this
abbrev pub outside_seen : Seen → FileMap → Outside
outside_seen s map = outside map s.failed_reads s.failed_writes s.output s.failed_puts s.wire

-- the files and the output alone
abbrev pub host_seen : Seen → FileMap → Host
host_seen s map = host map s.failed_reads s.failed_writes s.output s.failed_puts

module _ (given : Option Command) (before after : Seen) where
  -- a relation between what the files report before and after, with the command
  abbrev pub OfCommand : (Command → FileMap → FileMap → Type 0) → Type 0
  OfCommand Holds = ForSome before.contents (λ map. ForSome given (λ command.
      IsSomeAnd after.contents (λ now. Holds command map now)))

  -- What a run with this status leaves.
  pub record HasEnded (reached : Status) : Type 0 where
    pub usage : reached ≡ Usage → given ≡ None
    pub no_command : given ≡ None
        → ((reached ≡ Usage) ⊎ (reached ≡ status.NoMemory)) × (after.output ≡ before.output)
    pub ends : ForSome before.contents (λ map. IsSomeAnd after.contents (λ now.
        RunEnds given (outside_seen before map) (outside_seen after now) reached))
    pub silent : IsSilent reached
        → (after.output ≡ before.output) × (after.wire ≡ before.wire)
    pub files : WritesNoFile given → after.contents ≡ before.contents
    pub wire : UsesNoWire given → after.wire ≡ before.wire
    pub wire_cause : reached ≡ WireFault → EventsRose before.wire after.wire
    pub exact : OfCommand (λ command map now.
        IsExact command (host_seen before map) (host_seen after now) reached)
    pub holds : ForSome before.contents (λ map. ForSome given (λ command.
        AnswersHold command map before.output after.output reached))
    pub found : ForSome before.contents (λ map. ForSome given (λ command.
        FindingsAreTold command map before.output after.output reached))
    pub complete : OfCommand (λ command map now.
        IsComplete command (outside_seen before map) (outside_seen after now) reached)
    pub read_cause : ReadRose (given_inputs given) before.failed_reads after.failed_reads reached
    pub write_cause : reached ≡ WriteFault → Rose before.failed_puts after.failed_puts
    pub file_cause
        : FileFaultRose given before.contents before.failed_writes after.failed_writes reached
    pub whole_line : ¬ Rose before.failed_lines after.failed_lines
        → Gains before.error after.error (line reached)
    pub part_line : GainsPart before.error after.error (line reached)
