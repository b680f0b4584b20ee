-- How a run of `serve` ends, from how its parts end.
use Rattle.std.proofs.Common.{◌≡◌, ℕ, Bool, true, false, List, [], ◌++◌, inl, inr, refl, ap, sym, subst, arith}
use Rattle.std.specs.Prelude.{Option, Some, None, Result, Ok, Err, IsErrOf, ⊤, codes, is_some}
use Rattle.std.proofs.lemmas.Fmt.{decimal_digit}
use Rattle.edge_io.specs.Sink.{Gains}
use Rattle.edge_io.specs.Counts.{Rose}
use Rattle.edge_io.specs.Files.{FileMap}
use Rattle.wire.specs.Events.{IsWatched as WatchedBy}
use Rattle.wire.specs.Told.{WireReport}
use Rattle.wire.specs.declared.WireEnd.{WireEnd}
use Rattle.wire.specs.declared.WireEnd.TheVariants as wire_end
use Rattle.serving_spec.specs.declared.HubEnd.{HubEnd}
use Rattle.serving_spec.specs.declared.HubEnd.TheVariants as end
use Rattle.serving_spec.specs.declared.Tally.{Tally}
use Rattle.run_report.specs.declared.status.Status.{Status}
use Rattle.run_report.specs.declared.status.Status.TheVariants as status
use Rattle.command_spec.specs.declared.ServeOptions.{ServeOptions}
use Rattle.command_spec.specs.declared.WatchOptions.{WatchOptions}
use Rattle.site_inputs.specs.Sites.{Inputs}
use Rattle.site_inputs.specs.Statuses.{ReadRose, IsSilent}
use Rattle.site_inputs.specs.Outside.{Outside, outside}
use Rattle.serve_run.specs.Texts.{tally_text}
use Rattle.serve_run.proofs.Gained.{gains_then, part_then, put_then, first_part}
use Rattle.command_serve.specs.Ends.{serving_text, no_tally, WatchesIf, IsLetWatch, IsReady, Serving, CountsPut, ListeningEnds, ServesTo, TellingEnds, ListensAndEnds, WatchedEnds, OverEnds}

-- the counts of a run without connections
pub no_counts : tally_text false no_tally ≡ codes "connections 0\nreplies 0\nhits 0\n"
no_counts =
    ap (λ (d : List ℕ). (codes "connections " ++ d ++ codes "\n") ++ ((codes "replies " ++ d ++ codes "\n") ++ ((codes "hits " ++ d ++ codes "\n") ++ [])))
    (decimal_digit 0 (omega arith))

pub no_counts_watched : tally_text true no_tally ≡ codes "connections 0\nreplies 0\nhits 0\nchanges 0\nrefused 0\n"
no_counts_watched =
    ap (λ (d : List ℕ). (codes "connections " ++ d ++ codes "\n") ++ ((codes "replies " ++ d ++ codes "\n") ++ ((codes "hits " ++ d ++ codes "\n")
    ++ ((codes "changes " ++ d ++ codes "\n") ++ (codes "refused " ++ d ++ codes "\n")))))
    (decimal_digit 0 (omega arith))

-- what a call of watch does
pub watching_of : (watch : WatchOptions) (before after : WireReport) (result : Result ⊤ WireEnd) → WatchedBy watch.path watch.every before.watches after.watches result
    → (IsErrOf result wire_end.NoMemory → after ≡ before)
    → (after.account ≡ before.account) × (after.faults ≡ before.faults) × (after.given ≡ before.given) × (after.left ≡ before.left) × (after.listens ≡ before.listens)
    → IsLetWatch (Some watch) before after result
watching_of watch before after (Ok unit) watched short stays = record { watched = watched; listens = stays.4; connections = (stays.0, stays.1); given = stays.2; left = stays.3 }
watching_of watch before after (Err wire_end.Failed) watched short stays = record { watched = watched; listens = stays.4; connections = (stays.0, stays.1); given = stays.2; left = stays.3 }
watching_of watch before after (Err wire_end.NoMemory) watched short stays = short refl

-- the events that are left stay
pub watched_left : (watch : Option WatchOptions) (before after : WireReport) → WatchesIf watch before after → after.left ≡ before.left
watched_left None before after same = ap (λ (t : WireReport). t.left) same
watched_left (Some watch) before after watching = watching.left

-- a run whose counts tell a fault of the wire ended by one
pub wire_failed : (ended : HubEnd) (watches : Bool) (tally : Tally) (old new : Option (List ℕ)) (P : Type 0) (reached : Status) → CountsPut ended watches tally old new P reached → reached ≡ status.WireFault → ended ≡ end.WireFailed
wire_failed ended watches tally old new P reached puts is = by (subst (CountsPut ended watches tally old new P) is puts)
  where
    by : CountsPut ended watches tally old new P status.WireFault → ended ≡ end.WireFailed
    by (inl h) = h.0
    by (inr h) = absurd cc

-- the counts behind the line
module _ (s : Inputs) (watches : Bool) (options : ServeOptions) (before after : WireReport) (a b c : Option (List ℕ)) (P Q : Type 0) (to : P → Q) (line : Gains a b (serving_text options.port)) where
  ends_as : (one other : HubEnd) (tally : Tally) → one ≡ other → ServesTo s options.limits before after one tally → ServesTo s options.limits before after other tally
  ends_as one other tally is h = subst (λ (e : HubEnd). ServesTo s options.limits before after e tally) is h

  by_status : (ended : HubEnd) (tally : Tally) → ServesTo s options.limits before after ended tally → (reached : Status) → CountsPut ended watches tally b c P reached → TellingEnds s watches options before after a c Q reached
  by_status ended tally serves status.Ok (inl h) = (tally, ends_as ended end.Done tally h.0 serves, gains_then a b c _ _ line h.1)
  by_status ended tally serves status.Ok (inr h) = absurd cc
  by_status ended tally serves status.WriteFault (inl h) = inr (tally, ends_as ended end.Done tally h.0 serves, part_then a b c _ _ line h.1)
  by_status ended tally serves status.WriteFault (inr h) = absurd cc
  by_status ended tally serves status.WireFault (inl h) = (tally, ends_as ended end.WireFailed tally h.0 serves, put_then a b c _ _ P Q to line h.1)
  by_status ended tally serves status.WireFault (inr h) = absurd cc
  by_status ended tally serves status.TurnsSpent (inl h) = (tally, ends_as ended end.TurnsSpent tally h.0 serves, put_then a b c _ _ P Q to line h.1)
  by_status ended tally serves status.TurnsSpent (inr h) = absurd cc
  by_status ended tally serves status.NoMemory (inl h) = (ended, tally, serves, first_part a b c _ _ line h.1)
  by_status ended tally serves status.NoMemory (inr h) = (ended, tally, serves, first_part a b c _ _ line h.1)
  by_status ended tally serves status.Usage (inl h) = h
  by_status ended tally serves status.Usage (inr h) = absurd cc
  by_status ended tally serves status.NotAllYes (inl h) = h
  by_status ended tally serves status.NotAllYes (inr h) = absurd cc
  by_status ended tally serves status.NotFound (inl h) = h
  by_status ended tally serves status.NotFound (inr h) = absurd cc
  by_status ended tally serves (status.Refused file number place) (inl h) = h
  by_status ended tally serves (status.Refused file number place) (inr h) = absurd cc
  by_status ended tally serves (status.ReadFault path) (inl h) = h
  by_status ended tally serves (status.ReadFault path) (inr h) = absurd cc
  by_status ended tally serves (status.PageFault term kind) (inl h) = h
  by_status ended tally serves (status.FileFault path) (inl h) = h
  by_status ended tally serves (status.PageFault term kind) (inr h) = absurd cc
  by_status ended tally serves (status.FileFault path) (inr h) = absurd cc

  pub told_listening : (reached : Status) → ListeningEnds s watches options.limits before after b c P reached → TellingEnds s watches options before after a c Q reached
  told_listening reached h = by_status h.ended h.tally h.serves reached h.puts

-- what was put over a wire that watches, whatever the files are
module _ (s : Inputs) (watch : Option WatchOptions) (options : ServeOptions) (before between after : WireReport)
    (files now : FileMap) (reads reads_now writes writes_now : List ℕ → ℕ) (old new : Option (List ℕ)) (puts puts_now : ℕ)
    (watching : WatchesIf watch before between) where
  abbrev pub Before : Outside
  Before = outside files reads writes old puts before

  abbrev pub After : Outside
  After = outside now reads_now writes_now new puts_now after

  abbrev Tells : Status → Type 0
  Tells reached = ListensAndEnds s (is_some watch) options between after old new (Rose puts puts_now) reached

  ready : (reached : Status) (h : Tells reached) → IsReady watch options before h.between
  ready reached h = record { between = between; watching = watching; listening = h.listening }

  served : (reached : Status) (h : Tells reached) (ended : HubEnd) (tally : Tally) → ServesTo s options.limits h.between after ended tally → Serving s watch options before after ended tally
  served reached h ended tally serves = record { between = h.between; ready = ready reached h; serves = serves; listens = h.listens; watches = h.watches_stay }

  by_told : (reached : Status) (h : Tells reached) → TellingEnds s (is_some watch) options h.between after old new (Rose puts puts_now) reached → OverEnds s watch options Before After reached
  by_told status.Ok h (tally, serves, put) = (tally, served status.Ok h end.Done tally serves, put)
  by_told status.WriteFault h (inl (same, put)) = inl (subst (IsReady watch options before) (sym same) (ready status.WriteFault h), put)
  by_told status.WriteFault h (inr (tally, serves, put)) = inr (tally, served status.WriteFault h end.Done tally serves, put)
  by_told status.WireFault h (tally, serves, put) = inr (tally, served status.WireFault h end.WireFailed tally serves, put)
  by_told status.TurnsSpent h (tally, serves, put) = (tally, served status.TurnsSpent h end.TurnsSpent tally serves, put)
  by_told status.NoMemory h (ended, tally, serves, put) = inr (ended, tally, served status.NoMemory h ended tally serves, put)
  by_told status.Usage h tells = tells
  by_told status.NotAllYes h tells = tells
  by_told status.NotFound h tells = tells
  by_told (status.Refused file number place) h tells = tells
  by_told (status.ReadFault path) h tells = tells
  by_told (status.PageFault term kind) h tells = tells
  by_told (status.FileFault path) h tells = tells

  pub over_of : (reached : Status) → WatchedEnds s (is_some watch) options between after old new (Rose puts puts_now) reached → OverEnds s watch options Before After reached
  over_of reached (inl h) = by_told reached h h.tells
  over_of reached (inr (is, listening, put)) =
      subst (OverEnds s watch options Before After) (sym is) (inl (inr (record { between = between; watching = watching; listening = listening }), put))

-- a run that was begun ends with none of the statuses of an input, nor with that of wrong words
module _ (s : Inputs) (watch : Option WatchOptions) (options : ServeOptions) (before after : Outside) where
  pub never_silent : (reached : Status) → OverEnds s watch options before after reached → IsSilent reached → ⊥
  never_silent status.Ok h quiet = quiet
  never_silent status.WriteFault h quiet = quiet
  never_silent status.WireFault h quiet = quiet
  never_silent status.TurnsSpent h quiet = quiet
  never_silent status.NoMemory h quiet = quiet
  never_silent status.Usage h quiet = h
  never_silent status.NotAllYes h quiet = quiet
  never_silent status.NotFound h quiet = h
  never_silent (status.Refused file number place) h quiet = h
  never_silent (status.ReadFault path) h quiet = h
  never_silent (status.PageFault term kind) h quiet = h
  never_silent (status.FileFault path) h quiet = h

  pub never_usage : (reached : Status) → OverEnds s watch options before after reached → reached ≡ status.Usage → ⊥
  never_usage reached h is = subst (OverEnds s watch options before after) is h

  pub over_read_rose : (paths : List (List ℕ)) (reads now : List ℕ → ℕ) (reached : Status) → OverEnds s watch options before after reached → ReadRose paths reads now reached
  over_read_rose paths reads now status.Ok h = tt
  over_read_rose paths reads now status.WriteFault h = tt
  over_read_rose paths reads now status.WireFault h = tt
  over_read_rose paths reads now status.TurnsSpent h = tt
  over_read_rose paths reads now status.NoMemory h = tt
  over_read_rose paths reads now status.Usage h = tt
  over_read_rose paths reads now status.NotAllYes h = tt
  over_read_rose paths reads now status.NotFound h = tt
  over_read_rose paths reads now (status.Refused file number place) h = tt
  over_read_rose paths reads now (status.ReadFault path) h = absurd h
  over_read_rose paths reads now (status.PageFault term kind) h = tt
  over_read_rose paths reads now (status.FileFault path) h = tt
