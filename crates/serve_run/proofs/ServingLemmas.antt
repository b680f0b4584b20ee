-- A run over pages that stand still, in words that name no hub.
use Rattle.std.proofs.Common.{◌≡◌, ◌<◌, ◌≤◌, ◌+◌, ◌⊎◌, ◌||◌, take, get_or, flat_map, arith, ℕ, Bool, true, false, List, [], ◌∷◌, ◌++◌, length, refl, sym, ap, ◌∙◌, subst, inl, inr, Option, Some, None, append-nil, if◌then◌else◌}
use Rattle.std.specs.List.{fold, list_any}
use Rattle.std.proofs.lemmas.Grind.{flat_map-append}
use Rattle.std.proofs.lemmas.List.{take_more}
use Rattle.sd_value.specs.declared.Term.{Term}
use Rattle.tmpl.specs.Body.{TemplateFile}
use Rattle.page_spec.specs.Site.{Site}
use Rattle.page_spec.specs.Address.{TermOf}
use Rattle.mem_wire.specs.Sent.{Sent}
use Rattle.mem_wire.specs.WireInMemory.{account_of, taken_of}
use Rattle.wire.specs.Accounts.{up, up_by}
use Rattle.wire.specs.Events.{add_event, is_done, IsDrawn}
use Rattle.wire.specs.Told.{WireReport}
use Rattle.happenings.specs.Happening.{Happening}
use Rattle.happenings.specs.declared.event.WireEvent.{WireEvent}
use Rattle.happenings.specs.declared.event.WireEvent.TheVariants.{Opened, Bytes, Ended, Lost, Change, Done}
use Rattle.serving_spec.specs.Changes.{Changes, state_after, texts_in, refused_in, AllKept}
use Rattle.serving_spec.specs.Looks.{Kept, KeptPage}
use Rattle.hub.specs.Course.{Scene, Rules, PassesAll, IsCourse, Happens}
use Rattle.hub.specs.HubState.{scene, HubState, line_of}
use Rattle.hub.specs.Line.{Line}
use Rattle.serving_spec.specs.Inputs.{Input, Unopened, moment_after, input_of}
use Rattle.hub.specs.Moments.{Stands}
use Rattle.serving_spec.specs.RunEnds.{EndsRun}
use Rattle.serving_spec.specs.Shown.{shown_in}
use Rattle.http_spec.specs.Sessions.{Showing}
use Rattle.hub.specs.Turns.{seen_of, at_in}
use Rattle.serving_spec.specs.Openings.{counts, greatest_after, opened_after, opens, opened_from, opened_in}
use Rattle.serving_spec.specs.declared.Tally.{Tally}
use Rattle.serving_spec.specs.declared.HubEnd.{HubEnd}
use Rattle.serving_spec.specs.declared.Origin.{Origin}
use Rattle.serving_spec.specs.declared.CacheRoom.{CacheRoom}
use Rattle.serving_spec.specs.declared.HubEnd.TheVariants.{Done as Finished, WireFailed, TurnsSpent, NoMemory}
use Rattle.serving_spec.specs.Sent.{seen, IsServed}
use Rattle.serving_spec.specs.Counted.{Counts, no_counts, IsCounted, made_of}
use Rattle.serving_spec.specs.Serving.{When, after_when, first_when, none_kept, Tallied, Serves}
use Rattle.serve_run.specs.Texts.{bytes_taken}
use Rattle.serve_run.specs.Steps.{at, run_rules, TalliedInSteps, ServesInSteps, HappensInSteps}
use Rattle.serve_run.proofs.CountLemmas.{served_of, counted_of, plain_served, After, steps_of, Whole, whole}

-- one event more opens one connection more, or none
opened_step : (e : WireEvent) (greatest : Option ℕ) (n : ℕ) (others : List ℕ) → up_by (length others) (opened_after e greatest n) ≡ up_by (length (opens greatest e ++ others)) n
opened_step (Opened number) greatest n others = by_test (counts greatest number)
  where
    by_test : (t : Bool) → up_by (length others) (if t then up n else n) ≡ up_by (length ((if t then number ∷ [] else []) ++ others)) n
    by_test true = refl
    by_test false = refl
opened_step (Bytes number piece) greatest n others = refl
opened_step (Ended number) greatest n others = refl
opened_step (Lost number) greatest n others = refl
opened_step (Change text) greatest n others = refl
opened_step Done greatest n others = refl

opened_count : {D C : Type 0} (rules : Rules D C) (limit : ℕ) (before : Scene D C) (events : List WireEvent) (after : Scene D C) → (trace : List Happening) → PassesAll rules limit before events after trace
    → after.opened ≡ up_by (length (opened_from before.greatest events)) before.opened
opened_count rules limit before [] after trace (same, none) = ap (λ (s : Scene _ _). s.opened) same
opened_count rules limit before (e ∷ events) after trace (between, passes, others, rest, is) =
    opened_count rules limit between events after others rest
    ∙ ap (λ g. up_by (length (opened_from g events)) between.opened) passes.greatest
    ∙ ap (up_by (length (opened_from (greatest_after e before.greatest) events))) passes.opened
    ∙ opened_step e before.greatest before.opened (opened_from (greatest_after e before.greatest) events)

-- A run of a hub that is new.
module _ {P D : Type 0} (old new : HubState P) (origin : Origin) (site : D → Site) (templates : D → TemplateFile) (texts : Changes D) (start : D) (requests turns : ℕ) (room : CacheRoom) (state : P → D) (cache : P → Kept)
    (before after : WireReport) (end : HubEnd) (tally : Tally) (events : List WireEvent) (some : 0 < requests)
    (given : after.given ≡ fold add_event before.given events) (left : IsDrawn before.left events after.left) (ends : EndsRun turns events end)
    (trace : List Happening)
    (course : IsCourse (run_rules old.origin site templates texts) old.limit end (scene state cache old before.account before.faults) events (scene state cache new after.account after.faults) trace)
    (stands : (number : ℕ) → line_of old number ≡ None
    → Stands (shown_in old.origin site templates) (TermOf old.origin.root) old.limit number
    (moment_after (state_after texts.changed) number (record { current = state old.pages; greatest = old.greatest; input = Unopened }) events)
    (at_in (line_of old) before.account before.faults number) (at_in (line_of new) after.account after.faults number))
    (none : (number : ℕ) → line_of old number ≡ None) (origin_is : old.origin ≡ origin) (limit_is : old.limit ≡ requests) (state_is : state old.pages ≡ start)
    (greatest_is : old.greatest ≡ None) (opened_is : old.opened ≡ 0) (replies_is : old.replies ≡ 0) (changes_is : old.changes ≡ 0) (refused_is : old.refused ≡ 0)
    (cache_is : cache old.pages ≡ none_kept room)
    (tally_is : tally ≡ record { connections = new.opened; replies = new.replies; hits = (cache new.pages).hits; changes = new.changes; refused = new.refused }) where
  each : (number : ℕ) → IsServed (shown_in origin site templates) requests (input_of (state_after texts.changed) start number events) (seen before number) (seen after number)
  each number =
      let from : D → Option ℕ → Input D = λ current greatest. (moment_after (state_after texts.changed) number (record { current = current; greatest = greatest; input = Unopened }) events).input in
      let here = stands number (none number) in
      let there = plain_served (shown_in old.origin site templates) (TermOf old.origin.root) old.limit here.counted (from (state old.pages) old.greatest) (seen before number) (seen after number)
      (served_of (shown_in old.origin site templates) (TermOf old.origin.root) start old.limit here.counted (at_in (line_of old) before.account before.faults number)
      (at_in (line_of new) after.account after.faults number) (from (state old.pages) old.greatest) here.is.stands) in
      subst (λ r. IsServed (shown_in r site templates) requests (input_of (state_after texts.changed) start number events) (seen before number) (seen after number)) origin_is
      (subst (λ n. IsServed (shown_in old.origin site templates) n (input_of (state_after texts.changed) start number events) (seen before number) (seen after number)) limit_is
      (subst (λ i. IsServed (shown_in old.origin site templates) old.limit i (seen before number) (seen after number))
      (ap (λ d. from d old.greatest) state_is ∙ ap (λ g. from start g) greatest_is) there))

  abbrev first : Scene D Kept
  first = scene state cache old before.account before.faults

  abbrev last : Scene D Kept
  last = scene state cache new after.account after.faults

  course_is : IsCourse (run_rules origin site templates texts) requests end first events last trace
  course_is =
      subst (λ r. IsCourse (run_rules r site templates texts) requests end first events last trace) origin_is
      (subst (λ n. IsCourse (run_rules old.origin site templates texts) n end first events last trace) limit_is course)

  in_steps : TalliedInSteps origin site templates texts start requests room before after end events tally
  in_steps = record {
    first = first;
    last = last;
    trace = trace;
    course = course_is;
    data_are = state_is;
    none_open = greatest_is;
    none_counted = (opened_is, replies_is);
    none_changed = (changes_is, refused_is);
    none_kept = cache_is;
    begins = λ number. ap (λ (l : Option Line). record { line = l; account = before.account number; faults = before.faults number }) (none number);
    ends = λ number. (refl, refl);
    tally_is = tally_is;
  }

  all : Whole (run_rules origin site templates texts) requests end first events last
  all = whole (run_rules origin site templates texts) requests end first events last trace course_is

  made : After origin site templates texts requests some first.ats (λ k. record { current = first_when start; greatest = None; input = Unopened }) (λ k. no_counts) (first_when start) all.taken first all.end
  made = steps_of origin site templates texts requests some start all.taken first all.end state_is greatest_is none all.trace all.passes

  abbrev shown : When D → Showing
  shown when = shown_in origin site templates when.current

  abbrev makes_of : ℕ → Counts (When D)
  makes_of number = made_of (after_when texts.changed) (first_when start) number all.taken made.makes

  abbrev comes_of : ℕ → Input (When D)
  comes_of number = input_of (after_when texts.changed) (first_when start) number all.taken

  tallied : Tallied origin site templates texts start requests room before after all.taken tally
  tallied = record {
    makes = made.makes;
    one_each = made.one_each;
    each = λ number.
        subst (λ a. IsCounted shown (TermOf origin.root) requests (makes_of number) (comes_of number) (seen before number) (seen_of a)) (sym (all.ats number))
        (counted_of shown (TermOf origin.root) (first_when start) requests (makes_of number) (first.ats number) (all.end.ats number) (comes_of number) (made.stands number).stands);
    connections = ap (λ (t : Tally). t.connections) tally_is ∙ all.opened
        ∙ opened_count (run_rules origin site templates texts) requests first all.taken all.end all.trace all.passes
        ∙ ap (λ g. up_by (length (opened_from g all.taken)) old.opened) greatest_is ∙ ap (up_by (length (opened_in all.taken))) opened_is;
    replies = ap (λ (t : Tally). t.replies) tally_is ∙ all.replies ∙ made.replies ∙ ap (λ n. fold (λ m one. up_by one.replies m) n made.makes) replies_is;
    changes = ap (λ (t : Tally). t.changes) tally_is ∙ all.changes ∙ made.changes ∙ ap (up_by (length (texts_in all.taken))) changes_is;
    refused = ap (λ (t : Tally). t.refused) tally_is ∙ all.refused ∙ made.refused ∙ ap (up_by (length (refused_in texts (state old.pages) all.taken))) refused_is
        ∙ ap (λ d. up_by (length (refused_in texts d all.taken)) 0) state_is;
    kept = all.end.cache;
    keeps = subst (λ d. AllKept site templates texts d all.taken made.makes (none_kept room) all.end.cache) state_is
        (subst (λ k. AllKept site templates texts (state old.pages) all.taken made.makes k all.end.cache) cache_is made.keeps);
    hits = ap (λ (t : Tally). t.hits) tally_is ∙ all.found;
  }

  pub serves : Serves origin site templates texts start requests turns room before after (record { end = end; tally = tally })
  serves = record { events = events; given = given; left = left; ends = ends; each = each; taken = all.taken; all_taken = all.all_taken; tally = tallied }

  pub serves_in_steps : ServesInSteps origin site templates texts start requests turns room before after (record { end = end; tally = tally })
  serves_in_steps = record { events = events; left = left; ends = ends; tally = in_steps }

  pub happens_in_steps : (old_trace new_trace : List Happening) → Happens end trace old_trace new_trace
      → HappensInSteps origin site templates texts start requests turns room before after (record { end = end; tally = tally }) old_trace new_trace
  unfolding serves_in_steps in_steps
  happens_in_steps old_trace new_trace happens = (serves_in_steps, happens)

abbrev no_tally : Tally
no_tally = record { connections = 0; replies = 0; hits = 0; changes = 0; refused = 0 }

-- memory was missing before the first event
pub serves_nothing : {D : Type 0} (origin : Origin) (site : D → Site) (templates : D → TemplateFile) (texts : Changes D) (start : D) (requests turns : ℕ) (room : CacheRoom) (wire : WireReport)
    → Serves origin site templates texts start requests turns room wire wire (record { end = NoMemory; tally = no_tally })
serves_nothing {D} origin site templates texts start requests turns room wire = record {
  events = [];
  given = refl;
  left = refl;
  ends = (let none : 0 ≤ turns = omega arith in none, refl);
  each = λ number. refl;
  taken = [];
  all_taken = inl refl;
  tally = record {
    makes = [];
    one_each = tt;
    each = λ number. (refl, λ is. refl);
    connections = refl;
    replies = refl;
    changes = refl;
    refused = refl;
    kept = none_kept room;
    keeps = refl;
    hits = refl;
  };
}

pub no_steps : {D : Type 0} (origin : Origin) (site : D → Site) (templates : D → TemplateFile) (texts : Changes D) (start : D) (requests turns : ℕ) (room : CacheRoom) (wire : WireReport)
    → ServesInSteps origin site templates texts start requests turns room wire wire (record { end = NoMemory; tally = no_tally })
no_steps {D} origin site templates texts start requests turns room wire =
    let first : Scene D Kept = record { ats = at wire; current = start; greatest = None; opened = 0; replies = 0; changes = 0; refused = 0; cache = none_kept room } in
    record {
      events = [];
      left = refl;
      ends = (let none : 0 ≤ turns = omega arith in none, refl);
      tally = record {
        first = first;
        last = first;
        trace = [];
        course = inl (refl, refl);
        data_are = refl;
        none_open = refl;
        none_counted = (refl, refl);
        none_changed = (refl, refl);
        none_kept = refl;
        begins = λ number. refl;
        ends = λ number. (refl, refl);
        tally_is = refl;
      };
    }

-- nothing happened
nothing_happens : (old : List Happening) → Happens NoMemory [] old old
nothing_happens old = ([], inl refl, sym (append-nil old))

pub no_steps_happen : {D : Type 0} (origin : Origin) (site : D → Site) (templates : D → TemplateFile) (texts : Changes D) (start : D) (requests turns : ℕ) (room : CacheRoom) (wire : WireReport)
    (trace : List Happening) → HappensInSteps origin site templates texts start requests turns room wire wire (record { end = NoMemory; tally = no_tally }) trace trace
unfolding no_steps
no_steps_happen origin site templates texts start requests turns room wire trace =
    (no_steps origin site templates texts start requests turns room wire, nothing_happens trace)

-- a cache that is new
abbrev kept_of : ℕ → ℕ → List KeptPage → ℕ → Kept
kept_of count bytes pages hits = record { room = record { pages = count; bytes = bytes }; pages = pages; hits = hits }

pub new_kept : (cap most : ℕ) (room : CacheRoom) (hits : ℕ) (pages : List KeptPage) → cap ≡ room.pages → most ≡ room.bytes → pages ≡ [] → hits ≡ 0
    → kept_of cap most pages hits ≡ none_kept room
new_kept cap most room hits pages same same_bytes none zero_hits =
    ap (λ n. kept_of n most pages hits) same ∙ ap (λ n. kept_of room.pages n pages hits) same_bytes
    ∙ ap (λ ps. kept_of room.pages room.bytes ps hits) none ∙ ap (λ n. kept_of room.pages room.bytes [] n) zero_hits

-- more events than were left have Done among them
drawn_done : (events drawn : List WireEvent) (after : Option (List WireEvent)) → IsDrawn (Some events) drawn after → length events < length drawn → list_any is_done drawn ≡ true
drawn_done events [] after drew more = absurd (let never : ⊥ = omega (arith, more) in never)
drawn_done [] (e ∷ drawn) after (between, (is, left), rest) more = ap (λ (x : WireEvent). is_done x || list_any is_done drawn) is
drawn_done (first ∷ events) (e ∷ drawn) after (between, (is, left), rest) more =
    or_true (is_done e) (list_any is_done drawn)
    (drawn_done events drawn after (subst (λ o. IsDrawn o drawn after) left rest) (omega (arith, more)))
  where
    or_true : (a b : Bool) → b ≡ true → (a || b) ≡ true
    or_true true b e = refl
    or_true false b e = e

-- a run with a turn for each event, and one for Done
pub whole_run : (turns : ℕ) (events drawn : List WireEvent) (left after : Option (List WireEvent)) (end : HubEnd) → left ≡ Some events → IsDrawn left drawn after → EndsRun turns drawn end
    → length events < turns → (end ≡ WireFailed → ⊥) → (end ≡ Finished) ⊎ (end ≡ NoMemory)
whole_run turns events drawn left after Finished told drew ends room fine = inl refl
whole_run turns events drawn left after NoMemory told drew ends room fine = inr refl
whole_run turns events drawn left after WireFailed told drew ends room fine = absurd (fine refl)
whole_run turns events drawn left after TurnsSpent told drew (all, none) room fine =
    let done = drawn_done events drawn after (subst (λ o. IsDrawn o drawn after) told drew) (omega (arith, all, room)) in
    absurd (let never : true ≡ false = sym done ∙ none in cc)

-- the bytes that a connection took, as they are read and as they are told
pub taken_is : (entry : Option Sent) → taken_of entry ≡ bytes_taken (account_of entry)
taken_is None = refl
taken_is (Some e) = refl

-- the text of one connection more
pub more_texts : (text_of : ℕ → List ℕ) (opened : List ℕ) (i : ℕ) (old new : List ℕ) → i < length opened
    → old ≡ flat_map text_of (take i opened) → new ≡ old ++ text_of (get_or opened i 0) → new ≡ flat_map text_of (take (i + 1) opened)
more_texts text_of opened i old new below before grows =
    let more = take_more opened i 0 below in
    grows ∙ ap (λ t. t ++ text_of (get_or opened i 0)) before
    ∙ ap (λ t. flat_map text_of (take i opened) ++ t) (sym (append-nil (text_of (get_or opened i 0))))
    ∙ sym (flat_map-append text_of (take i opened) (get_or opened i 0 ∷ [])) ∙ ap (flat_map text_of) (sym more)
