-- A run over pages whose data texts may change, as the hub takes it step by step.
use Rattle.std.specs.Prelude.{◌≡◌, ℕ, List, None}
use Rattle.tmpl.specs.Body.{TemplateFile}
use Rattle.page_spec.specs.Site.{Site}
use Rattle.wire.specs.Events.{IsDrawn}
use Rattle.wire.specs.Told.{WireReport}
use Rattle.happenings.specs.Happening.{Happening}
use Rattle.happenings.specs.declared.event.WireEvent.{WireEvent}
use Rattle.serving_spec.specs.Changes.{Changes, LooksAt, RenewsAt}
use Rattle.serving_spec.specs.Looks.{Kept}
use Rattle.serving_spec.specs.RunEnds.{EndsRun}
use Rattle.serving_spec.specs.Serving.{none_kept}
use Rattle.serving_spec.specs.declared.CacheRoom.{CacheRoom}
use Rattle.serving_spec.specs.declared.Origin.{Origin}
use Rattle.serving_spec.specs.declared.HubEnd.{HubEnd}
use Rattle.serving_spec.specs.declared.Served.{Served}
use Rattle.serving_spec.specs.declared.Tally.{Tally}
use Rattle.hub.specs.Course.{Scene, Rules, rules_under, IsCourse, Happens}
use Rattle.hub.specs.Turns.{At}

-- a connection that is not open, as the wire reports it
abbrev pub at : WireReport → ℕ → At
at wire number = record { line = None; account = wire.account number; faults = wire.faults number }

-- the rules of pages of which those that were looked up last are kept
abbrev pub run_rules : {D : Type 0} → Origin → (D → Site) → (D → TemplateFile) → Changes D
    → Rules D Kept
run_rules origin site templates texts =
    rules_under origin site templates texts.changed texts.accepts (LooksAt site templates texts)
    (RenewsAt site templates texts) (λ kept. kept.hits)

-- the counts of a run, from its steps
pub record TalliedInSteps {D : Type 0} (origin : Origin) (site : D → Site)
    (templates : D → TemplateFile) (texts : Changes D) (start : D) (requests : ℕ) (room : CacheRoom)
    (before after : WireReport) (ended : HubEnd) (events : List WireEvent) (tally : Tally) : Type 0 where
  -- the run before the first event and after the last one
  pub first : Scene D Kept
  pub last : Scene D Kept
  -- all that happened: each event, and the sends and closes that its step made before the next
  pub trace : List Happening
  pub course : IsCourse (run_rules origin site templates texts) requests ended first events last trace
  -- at first no connection is open, nothing is counted and no page is kept
  pub data_are : first.current ≡ start
  pub none_open : first.greatest ≡ None
  pub none_counted : (first.opened ≡ 0) × (first.replies ≡ 0)
  pub none_changed : (first.changes ≡ 0) × (first.refused ≡ 0)
  pub none_kept : first.cache ≡ none_kept room
  -- the connections are as the wire reports them
  pub begins : (number : ℕ) → first.ats number ≡ at before number
  pub ends : (number : ℕ) → ((last.ats number).account ≡ after.account number)
      × ((last.ats number).faults ≡ after.faults number)
  pub tally_is : tally ≡ record {
    connections = last.opened;
    replies = last.replies;
    hits = last.cache.hits;
    changes = last.changes;
    refused = last.refused;
  }

-- these events came, and the run took its steps for them
pub record ServesInSteps {D : Type 0} (origin : Origin) (site : D → Site)
    (templates : D → TemplateFile) (texts : Changes D) (start : D) (requests turns : ℕ)
    (room : CacheRoom) (before after : WireReport) (served : Served) : Type 0 where
  pub events : List WireEvent
  pub left : IsDrawn before.left events after.left
  pub ends : EndsRun turns events served.end
  pub tally : TalliedInSteps origin site templates texts start requests room before after
      served.end events served.tally

-- the same, and nothing else happened: the list of what happened grew by the trace of the steps, and how the run ended
abbrev pub HappensInSteps : {D : Type 0} → Origin → (D → Site) → (D → TemplateFile) → Changes D
    → (start : D) → (requests turns : ℕ) → CacheRoom → (before after : WireReport)
    → (served : Served) → (old new : List Happening) → Type 0
HappensInSteps origin site templates texts start requests turns room before after served old new =
    (steps : ServesInSteps origin site templates texts start requests turns room before after
    served)
    × Happens served.end steps.tally.trace old new
