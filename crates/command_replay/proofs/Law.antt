-- How a replay ends that nothing outside fails.
use Rattle.std.proofs.Common.{◌≡◌, ◌<◌, ℕ, List, length, inl, inr, refl, sym, subst, ap, ◌∙◌}
use Rattle.std.specs.Prelude.{Some, Result, Ok, Err}
use Rattle.edge_io.specs.Files.{FileMap}
use Rattle.happenings.specs.declared.event.WireEvent.{WireEvent}
use Rattle.serving_spec.specs.declared.HubEnd.TheVariants as end
use Rattle.run_report.specs.declared.status.Place.TheVariants.{At}
use Rattle.run_report.specs.declared.status.Status.{Status}
use Rattle.run_report.specs.declared.status.Status.TheVariants as status
use Rattle.command_spec.specs.declared.ReplayCommand.{ReplayCommand}
use Rattle.token_reader.specs.declared.refusal.TextRefusal.{TextRefusal}
use Rattle.token_reader.specs.declared.refusal.TextRefusal.TheVariants as script
use Rattle.script_reader.specs.Script.{IsSettled}
use Rattle.script_reader.proofs.Once.{one_answer}
use Rattle.site_inputs.specs.declared.fault.Fault.{Fault}
use Rattle.site_inputs.specs.declared.fault.Fault.TheVariants.{Refused, Unread, Faulty, NotFound, NoMemory}
use Rattle.site_inputs.specs.declared.fault.Refusal.{Refusal}
use Rattle.data_source.specs.declared.numbered.NumberedFault.{NumberedFault}
use Rattle.site_inputs.specs.Runs.{Then, EndsWith, FileEnds, IsDecided, IsDecidedFault, Decides}
use Rattle.site_inputs.specs.Sites.{InputsEnd}
use Rattle.site_inputs.specs.Statuses.{ReadRose, status_of}
use Rattle.site_inputs.proofs.Decided.{then_decides, gives_decides}
use Rattle.site_inputs.proofs.DecidedInputs.{file_decides, inputs_decide}
use Rattle.command_spec.specs.Inputs.{replay_paths}
use Rattle.command_spec.specs.Limits.{script_limit}
use Rattle.command_replay.specs.Scripts.{script_told, ScriptTaken, ScriptEnds, Scripted, ScriptedEnd}
use Rattle.command_replay.specs.Ends.{RunEnds, ReplayEnds}
use Rattle.site_inputs.specs.Outside.{Host, PutsRose, AllRead, HasStatus}
use Rattle.command_replay.specs.Law.{ReplayEndsWell}
use Rattle.site_inputs.proofs.Endings.{ok_same, not_both, by_reason, not_refused}
use Rattle.site_serving.proofs.TurnsLeft.{turns_left}

-- ---- a script's bytes decide how it ends

told_settled : (e : TextRefusal) (told : NumberedFault) → script_told e ≡ Some told → IsSettled (Err e)
told_settled (script.TooLong at) told h = tt
told_settled (script.BadByte at) told h = tt
told_settled (script.OpenString at) told h = tt
told_settled (script.IntOutOfRange at) told h = tt
told_settled (script.Expected at) told h = tt
told_settled script.NoMemory told h = (let same = h in cc)

same_told : (e f : TextRefusal) (told other : NumberedFault) → e ≡ f → script_told e ≡ Some told → script_told f ≡ Some other → told ≡ other
same_told e f told other same h k = (let there : Some told ≡ Some other = sym h ∙ ap script_told same ∙ k in cc)

err_events : (e : TextRefusal) (events : List WireEvent) → ◌≡◌ {A = Result (List WireEvent) TextRefusal} (Err e) (Ok events) → ⊥
err_events e events same = cc

err_script : (e f : TextRefusal) → ◌≡◌ {A = Result (List WireEvent) TextRefusal} (Err e) (Err f) → e ≡ f
err_script e f same = cc

ok_events : (a b : List WireEvent) → ◌≡◌ {A = Result (List WireEvent) TextRefusal} (Ok a) (Ok b) → a ≡ b
ok_events a b same = cc

abbrev refused_so : (path : List ℕ) (told : NumberedFault) → Refusal
refused_so path told = record { file = path; number = told.number; place = At told.at }

script_once : (path bytes : List ℕ) (one other : Result (List WireEvent) Fault) → ScriptTaken path bytes one → ScriptTaken path bytes other → IsDecided one → IsDecided other → one ≡ other
script_once path bytes (Ok a) (Ok b) s t d e = ap Ok (ok_events a b (one_answer script_limit bytes (Ok a) (Ok b) s t tt tt))
script_once path bytes (Ok a) (Err (Refused g)) s t d e =
    absurd (err_events t.2 a (one_answer script_limit bytes (Err t.2) (Ok a) t.3 s (told_settled t.2 t.0 t.4) tt))
script_once path bytes (Err (Refused f)) (Ok b) s t d e =
    absurd (err_events s.2 b (one_answer script_limit bytes (Err s.2) (Ok b) s.3 t (told_settled s.2 s.0 s.4) tt))
script_once path bytes (Err (Refused f)) (Err (Refused g)) s t d e =
    let same = err_script s.2 t.2 (one_answer script_limit bytes (Err s.2) (Err t.2) s.3 t.3 (told_settled s.2 s.0 s.4) (told_settled t.2 t.0 t.4)) in
    ap (λ r. Err (Refused r)) (s.1 ∙ ap (refused_so path) (same_told s.2 t.2 s.0 t.0 same s.4 t.4) ∙ sym t.1)
script_once path bytes (Err (Unread p)) other s t d e = absurd d
script_once path bytes (Err NoMemory) other s t d e = absurd d
script_once path bytes (Err NotFound) other s t d e = absurd s
script_once path bytes (Err (Faulty term kind)) other s t d e = absurd s
script_once path bytes one (Err (Unread p)) s t d e = absurd e
script_once path bytes one (Err NoMemory) s t d e = absurd e
script_once path bytes one (Err NotFound) s t d e = absurd t
script_once path bytes one (Err (Faulty term kind)) s t d e = absurd t

script_decides : (map : FileMap) (path : List ℕ) → Decides (ScriptEnds map path)
script_decides map path = then_decides (FileEnds script_limit map path) (ScriptTaken path) (file_decides script_limit map path) (λ bytes. record { once = script_once path bytes })

scripted_decides : (map : FileMap) (command : ReplayCommand) → Decides (ScriptedEnd map command)
scripted_decides map command =
    then_decides (InputsEnd map command.sources command.over command.query command.templates) (λ site. Then (ScriptEnds map command.script) (λ events. EndsWith (record { site = site; events = events })))
    (inputs_decide map command.sources command.over command.query command.templates)
    (λ site. then_decides (ScriptEnds map command.script) (λ events. EndsWith (record { site = site; events = events })) (script_decides map command.script) (λ events. gives_decides (record { site = site; events = events })))

-- ---- how the run ends

module _ (command : ReplayCommand) (before after : Host) where
  abbrev Ended : Result Scripted Fault → Type 0
  Ended = ScriptedEnd before.files command

  abbrev Paths : List (List ℕ)
  Paths = replay_paths command

  run : (s : Scripted) (reached : Status) → RunEnds s command.limits before.output after.output (PutsRose before after) reached → (reached ≡ status.WriteFault → PutsRose before after) → length s.events < command.limits.turns → ¬ PutsRose before after → HasStatus status.Ok reached
  run s status.Ok ends write room no_put = inl refl
  run s status.NoMemory ends write room no_put = inr refl
  run s status.WriteFault ends write room no_put = absurd (no_put (write refl))
  run s status.TurnsSpent ends write room no_put =
      let r = ends.1 in
      absurd (turns_left s.site command.limits r.before r.after (record { end = end.TurnsSpent; tally = r.tally }) s.events r.fresh.left room r.serves refl)
  run s status.WireFault ends write room no_put = absurd ends
  run s (status.Refused file number place) ends write room no_put = absurd ends
  run s (status.ReadFault path) ends write room no_put = absurd ends
  run s status.Usage ends write room no_put = absurd ends
  run s status.NotAllYes ends write room no_put = absurd ends
  run s (status.FileFault path) ends write room no_put = absurd ends
  run s (status.PageFault term kind) ends write room no_put = absurd ends
  run s status.NotFound ends write room no_put = absurd ends

  accepted : (reached : Status) → ReplayEnds command before after reached → ReadRose Paths before.failed_reads after.failed_reads reached → (reached ≡ status.WriteFault → PutsRose before after)
      → AllRead Paths before after → (s : Scripted) → Ended (Ok s) → length s.events < command.limits.turns → ¬ PutsRose before after → HasStatus status.Ok reached
  accepted reached (inl h) read write all s taken room no_put =
      let same : h.script ≡ s = ok_same h.script s ((scripted_decides before.files command).once (Ok h.script) (Ok s) h.taken taken tt tt) in
      run h.script reached h.ends write (subst (λ x. length x.events < command.limits.turns) (sym same) room) no_put
  accepted reached (inr h) read write all s taken room no_put =
      let read_so : ReadRose Paths before.failed_reads after.failed_reads (status_of h.reason) = subst (ReadRose Paths before.failed_reads after.failed_reads) h.its read in
      inr (subst (λ x. x ≡ status.NoMemory) (sym h.its) (not_refused Ended (scripted_decides before.files command) Paths before after all h.reason read_so h.taken s taken))

  refused : (reached : Status) → ReplayEnds command before after reached → ReadRose Paths before.failed_reads after.failed_reads reached
      → AllRead Paths before after → (reason : Fault) → Ended (Err reason) → IsDecidedFault reason → HasStatus (status_of reason) reached
  refused reached (inl h) read all reason ended decided = absurd (not_both Ended (scripted_decides before.files command) h.script reason h.taken ended decided)
  refused reached (inr h) read all reason ended decided =
      let read_so : ReadRose Paths before.failed_reads after.failed_reads (status_of h.reason) = subst (ReadRose Paths before.failed_reads after.failed_reads) h.its read in
      subst (HasStatus (status_of reason)) (sym h.its) (by_reason Ended (scripted_decides before.files command) Paths before after all h.reason read_so h.taken reason ended decided)

pub replay_ends_well : (command : ReplayCommand) (before after : Host) (reached : Status) → ReplayEndsWell command before after reached
replay_ends_well command before after reached ends read write all =
    record { accepted = accepted command before after reached ends read write all; refused = refused command before after reached ends read all }
