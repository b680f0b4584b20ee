-- The command `serve`: the pages of a site over the connections that a wire gives.
use Rattle.std.specs.Prelude.{◌≡◌, ◌⊎◌, ℕ, Bool, List, ◌++◌, codes, is_some, Option, Some, None, Result, Ok, Err, ⊤}
use Rattle.std.specs.Fmt.{decimal}
use Rattle.edge_io.specs.Sink.{Gains, GainsPart}
use Rattle.wire.specs.Told.{WireReport, ConnectionsStay}
use Rattle.wire.specs.Events.{add_listen, add_watch}
use Rattle.wire.specs.declared.WireEnd.{WireEnd}
use Rattle.wire.specs.declared.WireEnd.TheVariants as wire_end
use Rattle.serving_spec.specs.declared.HubEnd.{HubEnd}
use Rattle.serving_spec.specs.declared.HubEnd.TheVariants as end
use Rattle.serving_spec.specs.declared.Tally.{Tally}
use Rattle.run_report.specs.declared.status.Status.{Status}
use Rattle.run_report.specs.declared.status.Status.TheVariants as status
use Rattle.command_spec.specs.declared.RunLimits.{RunLimits}
use Rattle.command_spec.specs.declared.ServeOptions.{ServeOptions}
use Rattle.command_spec.specs.declared.ServeCommand.{ServeCommand}
use Rattle.command_spec.specs.declared.WatchOptions.{WatchOptions}
use Rattle.site_inputs.specs.declared.fault.Fault.{Fault}
use Rattle.site_inputs.specs.Sites.{Inputs, Spell, Refuse}
use Rattle.site_inputs.specs.Statuses.{status_of}
use Rattle.site_inputs.specs.Outside.{Outside, PutsRose}
use Rattle.serve_run.specs.Texts.{tally_text}
use Rattle.site_serving.specs.Served.{ServesSite}
use Rattle.serve_run.specs.Puts.{IsPut, EndPuts}

-- what is put before the first event
abbrev pub serving_text : (port : ℕ) → List ℕ
serving_text port = codes "serving " ++ decimal port ++ codes "\n"

-- what is put in all, with the counts of texts where a file is watched
abbrev pub serve_text : (port : ℕ) → (watches : Bool) → Tally → List ℕ
serve_text port watches tally = serving_text port ++ tally_text watches tally

-- the counts of a run without connections
abbrev pub no_tally : Tally
no_tally = record { connections = 0; replies = 0; hits = 0; changes = 0; refused = 0 }

-- `watch` was called once, with this path and number, and nothing else
pub record Watching (watch : WatchOptions) (before after : WireReport) : Type 0 where
  pub watched : after.watches ≡ add_watch before.watches watch.path watch.every
  pub listens : after.listens ≡ before.listens
  pub connections : ConnectionsStay before after
  pub given : after.given ≡ before.given
  pub left : after.left ≡ before.left

-- the same where a file is to be watched, and nothing where none is
abbrev pub WatchesIf : Option WatchOptions → (before after : WireReport) → Type 0
WatchesIf None before after = after ≡ before
WatchesIf (Some watch) before after = Watching watch before after

-- `listen` was called once, at this port and for this number of connections, and no event was taken
pub record Listening (options : ServeOptions) (before after : WireReport) : Type 0 where
  pub listened : after.listens ≡ add_listen before.listens options.port options.connections
  pub connections : ConnectionsStay before after
  pub given : after.given ≡ before.given
  pub left : after.left ≡ before.left
  pub watches : after.watches ≡ before.watches

-- the answer of the call, where a file is to be watched: out of memory it did nothing
abbrev pub IsLetWatch : Option WatchOptions → (before after : WireReport) → Result ⊤ WireEnd → Type 0
IsLetWatch watch before after (Ok unit) = WatchesIf watch before after
IsLetWatch watch before after (Err wire_end.Failed) = WatchesIf watch before after
IsLetWatch watch before after (Err wire_end.NoMemory) = after ≡ before

-- the wire was let watch, where a file is to be watched, and then let listen
pub record IsReady (watch : Option WatchOptions) (options : ServeOptions) (before after : WireReport)
    : Type 0 where
  pub between : WireReport
  pub watching : WatchesIf watch before between
  pub listening : Listening options between after

-- the site was served over the wire until this end, and these were the counts
abbrev pub ServesTo : Inputs → RunLimits → (before after : WireReport) → HubEnd → Tally → Type 0
ServesTo s limits before after ended tally =
    ServesSite s limits before after (record { end = ended; tally = tally })

-- the wire was let watch and listen, and then the site was served over it
pub record Serving (s : Inputs) (watch : Option WatchOptions) (options : ServeOptions)
    (before after : WireReport) (ended : HubEnd) (tally : Tally) : Type 0 where
  pub between : WireReport
  pub ready : IsReady watch options before between
  pub serves : ServesTo s options.limits between after ended tally
  pub listens : after.listens ≡ between.listens
  pub watches : after.watches ≡ between.watches

-- this text was put, whole unless the output failed in it
abbrev pub Prints : (before after : Outside) → List ℕ → Type 0
Prints before after text =
    IsPut (PutsRose before.host after.host) before.host.output after.host.output text

-- What a run over these inputs has put, and why it has this status. Where watch or listen fails, the counts of a run
-- without connections are put alone. A fault of the output doesn't change the status of a run that was cut off.
module _ (s : Inputs) (watch : Option WatchOptions) (options : ServeOptions)
    (before after : Outside) where
  -- the site was served until this end, and these were the counts
  abbrev pub Served : HubEnd → Tally → Type 0
  Served = Serving s watch options before.wire after.wire

  -- what is put in all
  abbrev pub whole_text : Tally → List ℕ
  whole_text = serve_text options.port (is_some watch)

  -- how a run over these inputs ends
  abbrev pub OverEnds : Status → Type 0
  OverEnds status.Ok =
      (tally : Tally) × Served end.Done tally
      × Gains before.host.output after.host.output (whole_text tally)
  OverEnds status.WriteFault =
      (IsReady watch options before.wire after.wire
      × GainsPart before.host.output after.host.output (serving_text options.port))
      ⊎ ((tally : Tally) × Served end.Done tally
      × GainsPart before.host.output after.host.output (whole_text tally))
  OverEnds status.WireFault =
      ((WatchesIf watch before.wire after.wire ⊎ IsReady watch options before.wire after.wire)
      × Prints before after (tally_text (is_some watch) no_tally))
      ⊎ ((tally : Tally) × Served end.WireFailed tally
      × Prints before after (whole_text tally))
  OverEnds status.TurnsSpent =
      (tally : Tally) × Served end.TurnsSpent tally
      × Prints before after (whole_text tally)
  OverEnds status.NoMemory =
      ((after.wire ≡ before.wire) × (after.host.output ≡ before.host.output))
      ⊎ ((ended : HubEnd) × (tally : Tally) × Served ended tally
      × GainsPart before.host.output after.host.output (whole_text tally))
  OverEnds (status.Refused file number place) = ⊥
  OverEnds (status.ReadFault path) = ⊥
  OverEnds status.Usage = ⊥
  OverEnds status.NotAllYes = ⊥
  OverEnds (status.FileFault path) = ⊥
  OverEnds (status.PageFault term kind) = ⊥
  OverEnds status.NotFound = ⊥

module _ (command : ServeCommand) (before after : Outside) (reached : Status) where
  -- the inputs were read, and the run over them ended so
  pub record IsOver : Type 0 where
    pub inputs : Inputs
    pub taken : Spell before.host.files command.sources command.over command.query
        command.templates inputs
    pub ends : OverEnds inputs command.watch command.options before after reached

  -- an input was refused or unread, or it was out of memory for one, and nothing was done
  pub record IsUnread : Type 0 where
    pub reason : Fault
    pub taken : Refuse before.host.files command.sources command.over command.query
        command.templates reason
    pub its : reached ≡ status_of reason
    pub wire : after.wire ≡ before.wire
    pub out : after.host.output ≡ before.host.output

  -- What the command `serve` has put, and why it has this status.
  abbrev pub ServeEnds : Type 0
  ServeEnds = IsOver ⊎ IsUnread

-- ---- the parts of a run

-- the counts of a run were put, as its end says, or it was out of memory for them
abbrev pub CountsPut
    : HubEnd → (watches : Bool) → Tally → (old new : Option (List ℕ)) → (PutsRose : Type 0) → Status
    → Type 0
CountsPut ended watches tally old new PutsRose reached =
    EndPuts ended (tally_text watches tally) old new PutsRose reached
    ⊎ ((reached ≡ status.NoMemory) × (new ≡ old))

-- the site was served over a wire that listens, and then the counts were put
pub record ListeningEnds (s : Inputs) (watches : Bool) (limits : RunLimits) (before after : WireReport)
    (old new : Option (List ℕ)) (PutsRose : Type 0) (reached : Status) : Type 0 where
  pub ended : HubEnd
  pub tally : Tally
  pub serves : ServesTo s limits before after ended tally
  pub puts : CountsPut ended watches tally old new PutsRose reached

-- what is put over a wire that listens, the line that reports the port first
module _ (s : Inputs) (watches : Bool) (options : ServeOptions) (before after : WireReport)
    (old new : Option (List ℕ)) (PutsRose : Type 0) where
  -- the site was served until this end, and these were the counts
  abbrev pub ServesUntil : HubEnd → Tally → Type 0
  ServesUntil = ServesTo s options.limits before after

  -- what was put, and why the run has this status
  abbrev pub TellingEnds : Status → Type 0
  TellingEnds status.Ok =
      (tally : Tally) × ServesUntil end.Done tally × Gains old new (serve_text options.port watches tally)
  TellingEnds status.WriteFault =
      ((after ≡ before) × GainsPart old new (serving_text options.port))
      ⊎ ((tally : Tally) × ServesUntil end.Done tally
      × GainsPart old new (serve_text options.port watches tally))
  TellingEnds status.WireFault =
      (tally : Tally) × ServesUntil end.WireFailed tally
      × IsPut PutsRose old new (serve_text options.port watches tally)
  TellingEnds status.TurnsSpent =
      (tally : Tally) × ServesUntil end.TurnsSpent tally
      × IsPut PutsRose old new (serve_text options.port watches tally)
  TellingEnds status.NoMemory =
      (ended : HubEnd) × (tally : Tally) × ServesUntil ended tally
      × GainsPart old new (serve_text options.port watches tally)
  TellingEnds (status.Refused file number place) = ⊥
  TellingEnds (status.ReadFault path) = ⊥
  TellingEnds status.Usage = ⊥
  TellingEnds status.NotAllYes = ⊥
  TellingEnds (status.FileFault path) = ⊥
  TellingEnds (status.PageFault term kind) = ⊥
  TellingEnds status.NotFound = ⊥

-- the wire was let listen, and then what is put over it was put; where listen fails the counts of a run without
-- connections
module _ (s : Inputs) (watches : Bool) (options : ServeOptions) (before after : WireReport)
    (old new : Option (List ℕ)) (PutsRose : Type 0) where
  -- the wire listens, and what was put over it, and why the run has this status
  pub record ListensAndEnds (reached : Status) : Type 0 where
    pub between : WireReport
    pub listening : Listening options before between
    pub tells : TellingEnds s watches options between after old new PutsRose reached
    pub listens : after.listens ≡ between.listens
    pub watches_stay : after.watches ≡ between.watches

  -- the same, or listen failed
  abbrev pub WatchedEnds : Status → Type 0
  WatchedEnds reached =
      ListensAndEnds reached
      ⊎ ((reached ≡ status.WireFault) × Listening options before after
      × IsPut PutsRose old new (tally_text watches no_tally))
