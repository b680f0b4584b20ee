-- A run takes one event more.
use Rattle.std.proofs.Common.{◌≡◌, inr, ℕ, ◌<◌, true, false, ◌||◌, List, [], ◌∷◌, ◌++◌, refl, sym, ap, ◌∙◌, subst, append_assoc, append-nil, Option, None, if◌then◌else◌}
use Rattle.std.specs.List.{fold, list_any}
use Rattle.std.proofs.lemmas.Grind.{fold-append}
use Rattle.std.proofs.lemmas.List.Folds.{list_any-append}
use Rattle.sd_value.specs.declared.Term.{Term}
use Rattle.http_spec.specs.Sessions.{Showing}
use Rattle.wire.specs.Accounts.{Account, up_by}
use Rattle.wire.specs.Noted.{AreAccountedFor}
use Rattle.wire.proofs.Noting.{told_none}
use Rattle.wire.specs.Events.{add_event, is_done, IsNextOf, IsDrawn}
use Rattle.happenings.specs.Happening.{Happening, Given}
use Rattle.happenings.specs.declared.event.WireEvent.{WireEvent}
use Rattle.happenings.specs.declared.event.WireEvent.TheVariants.{Opened, Bytes, Ended, Lost as LostEvent, Change, Done}
use Rattle.serving_spec.specs.declared.Origin.{Origin}
use Rattle.hub.specs.Course.{Scene, Rules, Passes, PassesAll, IsCourse, accounts_of}
use Rattle.hub.specs.HubState.{scene, HubState}
use Rattle.hub.specs.Line.{Line}
use Rattle.serving_spec.specs.Counted.{no_counts, counts_with, is_of}
use Rattle.serving_spec.specs.Made.{Made, nothing}
use Rattle.serving_spec.specs.Inputs.{Moment, Unopened, after_event, moment_after}
use Rattle.hub.specs.Moments.{Stands}
use Rattle.hub.specs.Turns.{At, at_in, Turned, state_after}
use Rattle.serving_spec.specs.Openings.{greatest_after, opened_after}
use Rattle.serving_spec.specs.declared.HubEnd.TheVariants.{NoMemory}
use Rattle.hub.proofs.TurnLemmas.{stands_turn}

-- where a connection stands after these events, with the current and the greatest number as they are then
pub record Runs {D : Type 0} (page : D → Showing) (Names : List ℕ → Term → Type 0) (changed : D → List ℕ → D) (limit number : ℕ) (start : Moment D) (events : List WireEvent) (first now : At) (current : D) (greatest : Option ℕ) : Type 0 where
  pub stands : Stands page Names limit number (moment_after (state_after changed) number start events) first now
  pub current_is : (moment_after (state_after changed) number start events).current ≡ current
  pub greatest_is : (moment_after (state_after changed) number start events).greatest ≡ greatest

pub runs_start : {D : Type 0} (page : D → Showing) (Names : List ℕ → Term → Type 0) (changed : D → List ℕ → D) (limit number : ℕ) (first : At) (current : D) (greatest : Option ℕ) → first.line ≡ None
    → Runs page Names changed limit number (record { current = current; greatest = greatest; input = Unopened }) [] first first current greatest
runs_start page Names changed limit number first current greatest none =
    record { stands = record { counted = no_counts; is = record { stands = (none, refl, refl); opened = tt } }; current_is = refl; greatest_is = refl }

module _ {D : Type 0} (page : D → Showing) (Names : List ℕ → Term → Type 0) (changed : D → List ℕ → D) (limit k : ℕ) (start : Moment D) (events : List WireEvent) (e : WireEvent) (first : At) (made : Made) where
  moment_more : moment_after (state_after changed) k start (events ++ e ∷ []) ≡ after_event (state_after changed) k (moment_after (state_after changed) k start events) e
  moment_more = fold-append (after_event (state_after changed) k) start events (e ∷ [])

  -- where the event stands for all connections
  pub stands_more : (before after : ℕ → At) (current : D) (greatest : Option ℕ) → 0 < limit → Runs page Names changed limit k start events first (before k) current greatest
      → Turned (page current) Names limit greatest e made before after → Stands page Names limit k (moment_after (state_after changed) k start (events ++ e ∷ [])) first (after k)
  stands_more before after current greatest some runs turned =
      let m = moment_after (state_after changed) k start events in
      let here : Turned (page m.current) Names limit m.greatest e made before after =
      subst (λ s. Turned (page s) Names limit m.greatest e made before after) (sym runs.current_is)
      (subst (λ g. Turned (page current) Names limit g e made before after) (sym runs.greatest_is) turned) in
      subst (λ n. Stands page Names limit k n first (after k)) (sym moment_more) record {
        counted = if is_of k e then counts_with runs.stands.counted m.current made else runs.stands.counted;
        is = stands_turn page Names (state_after changed) limit k m runs.stands.counted first made before after some runs.stands.is e here;
      }

  pub runs_more : (before after : ℕ → At) (current now : D) (greatest later : Option ℕ) → 0 < limit → Runs page Names changed limit k start events first (before k) current greatest
      → Turned (page current) Names limit greatest e made before after → now ≡ state_after changed e current → later ≡ greatest_after e greatest
      → Runs page Names changed limit k start (events ++ e ∷ []) first (after k) now later
  runs_more before after current now greatest later some runs turned current_is greatest_is =
      let m = moment_after (state_after changed) k start events in
      record {
        stands = stands_more before after current greatest some runs turned;
        current_is = ap (λ (x : Moment D). x.current) moment_more ∙ ap (state_after changed e) runs.current_is ∙ sym current_is;
        greatest_is = ap (λ (x : Moment D). x.greatest) moment_more ∙ ap (greatest_after e) runs.greatest_is ∙ sym greatest_is;
      }

  -- the last event changes nothing
  pub stands_done : (now : At) (current : D) (greatest : Option ℕ) → e ≡ Done → Runs page Names changed limit k start events first now current greatest
      → Stands page Names limit k (moment_after (state_after changed) k start (events ++ e ∷ [])) first now
  stands_done now current greatest is runs =
      let m = moment_after (state_after changed) k start events in
      subst (λ n. Stands page Names limit k n first now) (sym moment_more)
      (subst (λ x. Stands page Names limit k (after_event (state_after changed) k m x) first now) (sym is) runs.stands)

-- one more event was given
pub given_more : (given now next : Option (List WireEvent)) (events : List WireEvent) (e : WireEvent) → now ≡ fold add_event given events
    → next ≡ add_event now e → next ≡ fold add_event given (events ++ e ∷ [])
given_more given now next events e before is =
    is ∙ ap (λ o. add_event o e) before ∙ sym (fold-append add_event given events (e ∷ []))

pub drawn_more : (left now next : Option (List WireEvent)) (events : List WireEvent) (e : WireEvent) → IsDrawn left events now → IsNextOf now e next
    → IsDrawn left (events ++ e ∷ []) next
drawn_more left now next [] e before is = (next, subst (λ o. IsNextOf o e next) before is, refl)
drawn_more left now next (x ∷ events) e (between, first, drawn) is = (between, first, drawn_more between now next events e drawn is)

pub none_more : (events : List WireEvent) (e : WireEvent) → list_any is_done events ≡ false → is_done e ≡ false → list_any is_done (events ++ e ∷ []) ≡ false
none_more events e before last =
    list_any-append is_done events (e ∷ []) ∙ ap (λ b. b || (is_done e || false)) before ∙ ap (λ b. b || false) last

pub done_is : (e : WireEvent) → is_done e ≡ true → e ≡ Done
done_is (Opened number) is = cc
done_is (Bytes number piece) is = cc
done_is (Ended number) is = cc
done_is (LostEvent number) is = cc
done_is (Change text) is = cc
done_is Done is = refl

-- the wire tells the same of the connections
pub runs_moved : {D : Type 0} (page : D → Showing) (Names : List ℕ → Term → Type 0) (changed : D → List ℕ → D) (limit number : ℕ) (start : Moment D) (events : List WireEvent) (first : At) (lines : ℕ → Option Line)
    (accounts others : ℕ → Option Account) (faults later : ℕ → ℕ) (current : D) (greatest : Option ℕ) → others ≡ accounts → later ≡ faults
    → Runs page Names changed limit number start events first (at_in lines accounts faults number) current greatest
    → Runs page Names changed limit number start events first (at_in lines others later number) current greatest
runs_moved page Names changed limit number start events first lines accounts others faults later current greatest same fine runs =
    subst (λ (a : ℕ → Option Account). Runs page Names changed limit number start events first (at_in lines a later number) current greatest) (sym same)
    (subst (λ (f : ℕ → ℕ). Runs page Names changed limit number start events first (at_in lines accounts f number) current greatest) (sym fine) runs)

-- the origin and the limit are as they were at first
pub turned_at : {D : Type 0} (page : Origin → D → Showing) (Names : Origin → List ℕ → Term → Type 0) (current : D) (origin here : Origin) (limit first : ℕ) (greatest : Option ℕ) (e : WireEvent) (made : Made)
    (before after : ℕ → At) → origin ≡ here → limit ≡ first → Turned (page origin current) (Names origin) limit greatest e made before after
    → Turned (page here current) (Names here) first greatest e made before after
turned_at page Names current origin here limit first greatest e made before after as_origin same turned =
    subst (λ n. Turned (page here current) (Names here) n greatest e made before after) same
    (subst (λ r. Turned (page r current) (Names r) limit greatest e made before after) as_origin turned)

-- an event was given, and then this was done
pub one_turn : (start now given after trace part : List Happening) (e : Happening) → now ≡ start ++ trace → given ≡ now ++ e ∷ [] → after ≡ given ++ part
    → after ≡ start ++ (trace ++ e ∷ part)
one_turn start now given after trace part e since one added =
    added ∙ ap (λ t. t ++ part) (one ∙ ap (λ t. t ++ e ∷ []) since) ∙ append_assoc (start ++ trace) (e ∷ []) part
    ∙ append_assoc start trace (e ∷ part)

pub one_given : (start now given trace : List Happening) (e : Happening) → now ≡ start ++ trace → given ≡ now ++ e ∷ [] → given ≡ start ++ (trace ++ e ∷ [])
one_given start now given trace e since one = one ∙ ap (λ t. t ++ e ∷ []) since ∙ append_assoc start trace (e ∷ [])

-- nothing happened after the course
pub course_ends : (start after course : List Happening) → after ≡ start ++ course → after ≡ start ++ (course ++ [])
course_ends start after course is = is ∙ ap (λ t. start ++ t) (sym (append-nil course))

-- the course of one event more
pub passes_more : {D C : Type 0} (rules : Rules D C) (limit : ℕ) (start between after : Scene D C) (events : List WireEvent) (e : WireEvent) (trace : List Happening)
    → PassesAll rules limit start events between trace → (step : Passes rules limit e between after)
    → PassesAll rules limit start (events ++ e ∷ []) after (trace ++ Given e ∷ step.part)
passes_more rules limit start between after [] e trace before step =
    let first : (it : Passes rules limit e start after) × (it.part ≡ step.part) =
    subst (λ s. (it : Passes rules limit e s after) × (it.part ≡ step.part)) before.0 (step, refl) in (
      after,
      first.0,
      [],
      (refl, refl),
      ap (λ t. t ++ Given e ∷ step.part) before.1 ∙ ap (λ p. Given e ∷ p) (sym first.1 ∙ sym (append-nil first.0.part)),
    )
passes_more rules limit start between after (x ∷ events) e trace (next, one, others, rest, is) step = (
  next,
  one,
  others ++ Given e ∷ step.part,
  passes_more rules limit next between after events e others rest step,
  ap (λ t. t ++ Given e ∷ step.part) is ∙ append_assoc (Given x ∷ one.part) others (Given e ∷ step.part),
)

-- the wire tells the same of the connections
pub passes_moved : {P D C : Type 0} (rules : Rules D C) (limit : ℕ) (start : Scene D C) (events : List WireEvent) (hub : HubState P) (state : P → D) (cache : P → C)
    (accounts others : ℕ → Option Account) (faults later : ℕ → ℕ) → others ≡ accounts → later ≡ faults
    → (trace : List Happening) → PassesAll rules limit start events (scene state cache hub accounts faults) trace
    → PassesAll rules limit start events (scene state cache hub others later) trace
passes_moved rules limit start events hub state cache accounts others faults later same fine trace passes =
    subst (λ (a : ℕ → Option Account). PassesAll rules limit start events (scene state cache hub a later) trace) (sym same)
    (subst (λ (f : ℕ → ℕ). PassesAll rules limit start events (scene state cache hub accounts f) trace) (sym fine) passes)

-- nothing more comes
pub passes_done : {D C : Type 0} (rules : Rules D C) (limit : ℕ) (start now : Scene D C) (events : List WireEvent) (e : WireEvent) (trace : List Happening) → e ≡ Done
    → PassesAll rules limit start events now trace → PassesAll rules limit start (events ++ e ∷ []) now (trace ++ Given e ∷ [])
passes_done rules limit start now events e trace is before =
    subst (λ x. PassesAll rules limit start (events ++ x ∷ []) now (trace ++ Given x ∷ [])) (sym is)
    (passes_more rules limit start now now events Done trace before record {
      made = nothing;
      turned = (λ number. refl, refl);
      current = refl;
      greatest = refl;
      opened = refl;
      replies = refl;
      changes = refl;
      refused = refl;
      cache = refl;
      part = [];
      told = told_none (accounts_of now);
    })

-- memory was missing for a change
pub counts_stay : {D C : Type 0} (rules : Rules D C) (limit : ℕ) (start between after : Scene D C) (events : List WireEvent) (e : WireEvent) (text : List ℕ) (made : Made)
    (trace : List Happening) → e ≡ Change text → PassesAll rules limit start events between trace
    → Turned (rules.Page between.current) rules.Names limit between.greatest e made between.ats after.ats
    → after.opened ≡ opened_after e between.greatest between.opened → after.replies ≡ up_by made.replies between.replies
    → rules.found after.cache ≡ rules.found between.cache → after.changes ≡ between.changes → after.refused ≡ between.refused
    → (part : List Happening) → AreAccountedFor part (accounts_of between) (accounts_of after)
    → IsCourse rules limit NoMemory start (events ++ e ∷ []) after (trace ++ Given e ∷ part)
counts_stay rules limit start between after events e text made trace is before turned opened replies found changes refused part told =
    let Of : WireEvent → Type 0 = λ x. Turned (rules.Page between.current) rules.Names limit between.greatest x made between.ats after.ats in
    let here : Of (Change text) = subst Of is turned in
    inr (
      refl,
      events,
      text,
      between,
      trace,
      part,
      ap (λ x. events ++ x ∷ []) is,
      before,
      record {
        ats = here.0;
        opened = opened ∙ ap (λ (x : WireEvent). opened_after x between.greatest between.opened) is;
        replies = replies ∙ ap (λ (m : Made). up_by m.replies between.replies) here.1;
        changes = changes;
        refused = refused;
        found = found;
      },
      told,
      ap (λ x. trace ++ Given x ∷ part) is,
    )
