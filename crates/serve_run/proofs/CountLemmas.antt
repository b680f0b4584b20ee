-- What is counted of a run, from its steps.
use Rattle.std.proofs.Common.{◌≡◌, ℕ, ◌<◌, Bool, false, List, [], ◌∷◌, ◌++◌, length, length-append, refl, sym, ap, ◌∙◌, subst, inl, inr, Option, Some, None, if◌then◌else◌}
use Rattle.std.specs.List.{fold, AllZip}
use Rattle.sd_value.specs.declared.Term.{Term}
use Rattle.tmpl.specs.Body.{TemplateFile}
use Rattle.page_spec.specs.Address.{TermOf}
use Rattle.page_spec.specs.Site.{Site}
use Rattle.http_spec.specs.declared.Standing.{Standing}
use Rattle.http_spec.specs.declared.Standing.TheVariants.{Open}
use Rattle.http_spec.specs.Sessions.{Showing, HasAnswer}
use Rattle.http_spec.specs.Streams.{Timed}
use Rattle.wire.specs.Accounts.{up_by}
use Rattle.happenings.specs.Happening.{Happening}
use Rattle.happenings.specs.declared.event.WireEvent.{WireEvent}
use Rattle.happenings.specs.declared.event.WireEvent.TheVariants.{Opened, Bytes, Ended, Lost, Change, Done}
use Rattle.serving_spec.specs.Changes.{Changes, state_after, text_of, refused_of, texts_in, refused_in, AllKept, AreTaken}
use Rattle.serving_spec.specs.Counted.{Counts, no_counts, counts_with, HasCounts, IsCounted, is_of, MayMake, counts_after}
use Rattle.serving_spec.specs.Delivered.{Seen}
use Rattle.serving_spec.specs.Inputs.{Input, Unopened, Coming, Over, Moment, after_event, moment_after}
use Rattle.serving_spec.specs.Looks.{Kept}
use Rattle.serving_spec.specs.Made.{Made}
use Rattle.serving_spec.specs.Openings.{greatest_after}
use Rattle.serving_spec.specs.Sent.{FrontOf, SettledBy, IsServedBy, IsServed}
use Rattle.serving_spec.specs.Serving.{When, after_when, first_when}
use Rattle.serving_spec.specs.Shown.{shown_in}
use Rattle.serving_spec.specs.declared.HubEnd.{HubEnd}
use Rattle.serving_spec.specs.declared.Origin.{Origin}
use Rattle.hub.specs.Course.{Scene, Rules, Passes, PassesAll, IsCourse}
use Rattle.hub.specs.Line.{Line}
use Rattle.hub.specs.Moments.{SettledAt, StandsComing, StandsFor, CountedStands}
use Rattle.hub.specs.Turns.{At, seen_of, Turned}
use Rattle.hub.proofs.MadeLemmas.{up_by_more}
use Rattle.hub.proofs.StandLemmas.{all_sent_map, cut_off_map, over_settled, so_far}
use Rattle.hub.proofs.TurnLemmas.{stands_turn}
use Rattle.serve_run.specs.Steps.{run_rules}

-- what a connection is sent, from where it stands
module _ {D : Type 0} (page : D → Showing) (Names : List ℕ → Term → Type 0) (d : D) (limit : ℕ) (counted : Counts D) (first now : At) where
  coming_served : (stream : List (Timed D)) (line : Option Line) → StandsComing page Names limit counted stream line first now
      → SettledAt page Names limit counted stream false first now
  coming_served stream None over = over_settled page Names limit counted stream first now over
  coming_served stream (Some line) o =
      inl record { standing = Open; replies = o.replies; answer = so_far page Names d limit counted stream line first now o; account = o.account; faults = o.faults }

  pub served_of : (input : Input D) → StandsFor page Names limit counted input first now
      → IsServedBy (HasCounts page Names limit counted) input (seen_of first) (seen_of now)
  served_of Unopened stands = ap seen_of stands.1
  served_of (Coming stream) stands = coming_served stream now.line stands
  served_of (Over ended stream) stands = stands.1

  none_of : (input : Input D) → StandsFor page Names limit counted input first now → input ≡ Unopened → counted ≡ no_counts
  none_of Unopened stands is = stands.2
  none_of (Coming stream) stands is = absurd (let never : Coming stream ≡ Unopened = is in cc)
  none_of (Over ended stream) stands is = absurd (let never : Over ended stream ≡ Unopened = is in cc)

  pub counted_of : (input : Input D) → StandsFor page Names limit counted input first now → IsCounted page Names limit counted input (seen_of first) (seen_of now)
  counted_of input stands = (served_of input stands, none_of input stands)

-- the same, without the counts
module _ {D : Type 0} (page : D → Showing) (Names : List ℕ → Term → Type 0) (limit : ℕ) (counted : Counts D) where
  plain : (stream : List (Timed D)) (ended : Bool) (standing : Standing) (replies : List (List ℕ)) → HasCounts page Names limit counted stream ended standing replies
      → HasAnswer page limit stream ended standing replies
  plain stream ended standing replies (inl c) = inl c.answer
  plain stream ended standing replies (inr (short, is, none)) = inr (short, is)

  plain_front : (stream : List (Timed D)) (ended : Bool) (standing : Standing) (replies : List (List ℕ)) → FrontOf (HasCounts page Names limit counted) stream ended standing replies
      → FrontOf (HasAnswer page limit) stream ended standing replies
  plain_front stream ended standing replies f = record {
    front = f.front;
    more = f.more;
    at_end = f.at_end;
    cut = f.cut;
    ends_so = f.ends_so;
    answer = plain f.front f.at_end standing replies f.answer;
  }

  plain_settled : (stream : List (Timed D)) (ended : Bool) (first now : Seen) → SettledBy (HasCounts page Names limit counted) stream ended first now → SettledBy (HasAnswer page limit) stream ended first now
  plain_settled stream ended first now (inl all) =
      inl (all_sent_map (HasCounts page Names limit counted stream ended) (HasAnswer page limit stream ended) first now all (plain stream ended all.standing all.replies))
  plain_settled stream ended first now (inr cut) =
      inr (cut_off_map (FrontOf (HasCounts page Names limit counted) stream ended) (FrontOf (HasAnswer page limit) stream ended) first now
      (λ standing replies is. plain_front stream ended standing replies is) cut)

  pub plain_served : (input : Input D) (first now : Seen) → IsServedBy (HasCounts page Names limit counted) input first now → IsServed page limit input first now
  plain_served Unopened first now same = same
  plain_served (Coming stream) first now settled = plain_settled stream false first now settled
  plain_served (Over ended stream) first now settled = plain_settled stream ended first now settled

-- an event of no connection makes nothing
may_make : (page : Showing) (Names : List ℕ → Term → Type 0) (limit : ℕ) (greatest : Option ℕ) (e : WireEvent) (made : Made) (before after : ℕ → At) → Turned page Names limit greatest e made before after
    → MayMake e made
may_make page Names limit greatest (Opened number) made before after turned = tt
may_make page Names limit greatest (Bytes number piece) made before after turned = tt
may_make page Names limit greatest (Ended number) made before after turned = tt
may_make page Names limit greatest (Lost number) made before after turned = tt
may_make page Names limit greatest (Change text) made before after turned = turned.1
may_make page Names limit greatest Done made before after turned = turned.1

-- one list behind another is counted
counted_more : {A : Type 0} (xs ys : List A) (n : ℕ) → up_by (length ys) (up_by (length xs) n) ≡ up_by (length (xs ++ ys)) n
counted_more xs ys n = sym (ap (λ k. up_by k n) (length-append xs ys) ∙ up_by_more (length xs) (length ys) n)

-- Over pages whose data texts may change.
module _ {D : Type 0} (origin : Origin) (site : D → Site) (templates : D → TemplateFile) (texts : Changes D) (limit : ℕ) (some : 0 < limit) where
  abbrev page : When D → Showing
  page when = shown_in origin site templates when.current

  abbrev next : WireEvent → When D → When D
  next = after_when texts.changed

  abbrev rules : Rules D Kept
  rules = run_rules origin site templates texts

  abbrev Here : ℕ → Moment (When D) → Counts (When D) → At → At → Type 0
  Here k moment counted first now = CountedStands page (TermOf origin.root) limit k moment counted first now

  -- one step, for one connection
  one_step : (k : ℕ) (when : When D) (e : WireEvent) (moment : Moment (When D)) (counted : Counts (When D)) (first : At) (before after : Scene D Kept) → when.current ≡ before.current
      → moment.current ≡ when → moment.greatest ≡ before.greatest → Here k moment counted first (before.ats k) → (step : Passes rules limit e before after)
      → Here k (after_event next k moment e) (if is_of k e then counts_with counted when step.made else counted) first (after.ats k)
  one_step k when e moment counted first before after current is_when greatest here step =
      let turned : Turned (page moment.current) (TermOf origin.root) limit moment.greatest e step.made before.ats after.ats =
      subst (λ g. Turned (page moment.current) (TermOf origin.root) limit g e step.made before.ats after.ats) (sym greatest)
      (subst (λ d. Turned (shown_in origin site templates d) (TermOf origin.root) limit before.greatest e step.made before.ats after.ats) (sym current ∙ ap (λ (w : When D). w.current) (sym is_when)) step.turned) in
      subst (λ w. Here k (after_event next k moment e) (if is_of k e then counts_with counted w step.made else counted) first (after.ats k)) is_when
      (stands_turn page (TermOf origin.root) next limit k moment counted first step.made before.ats after.ats some here e turned)

  -- what is counted after the events
  pub record After (firsts : ℕ → At) (moments : ℕ → Moment (When D)) (counted : ℕ → Counts (When D)) (when : When D) (events : List WireEvent) (before after : Scene D Kept) : Type 0 where
    pub makes : List Made
    pub one_each : AllZip MayMake events makes
    pub stands : (k : ℕ) → Here k (moment_after next k (moments k) events) (counts_after next k when (counted k) events makes) (firsts k) (after.ats k)
    pub replies : after.replies ≡ fold (λ n made. up_by made.replies n) before.replies makes
    pub changes : after.changes ≡ up_by (length (texts_in events)) before.changes
    pub refused : after.refused ≡ up_by (length (refused_in texts before.current events)) before.refused
    pub keeps : AllKept site templates texts before.current events makes before.cache after.cache

  all_steps : (firsts : ℕ → At) (events : List WireEvent) (moments : ℕ → Moment (When D)) (counted : ℕ → Counts (When D)) (when : When D) (before after : Scene D Kept)
      → when.current ≡ before.current → ((k : ℕ) → (moments k).current ≡ when) → ((k : ℕ) → (moments k).greatest ≡ before.greatest)
      → ((k : ℕ) → Here k (moments k) (counted k) (firsts k) (before.ats k))
      → (trace : List Happening) → PassesAll rules limit before events after trace → After firsts moments counted when events before after
  all_steps firsts [] moments counted when before after current whens greatest here trace (same, none) = record {
    makes = [];
    one_each = tt;
    stands = λ k. subst (λ (s : Scene D Kept). Here k (moments k) (counted k) (firsts k) (s.ats k)) (sym same) (here k);
    replies = ap (λ (s : Scene D Kept). s.replies) same;
    changes = ap (λ (s : Scene D Kept). s.changes) same;
    refused = ap (λ (s : Scene D Kept). s.refused) same;
    keeps = ap (λ (s : Scene D Kept). s.cache) same;
  }
  all_steps firsts (e ∷ events) moments counted when before after current whens greatest here trace (between, step, others, rest, is) =
      let later = all_steps firsts events (λ k. after_event next k (moments k) e) (λ k. if is_of k e then counts_with (counted k) when step.made else counted k) (next e when) between after
      (ap (state_after texts.changed e) current ∙ sym step.current)
      (λ k. ap (next e) (whens k))
      (λ k. ap (greatest_after e) (greatest k) ∙ sym step.greatest)
      (λ k. one_step k when e (moments k) (counted k) (firsts k) before between current (whens k) (greatest k) (here k) step)
      others rest in
      record {
        makes = step.made ∷ later.makes;
        one_each = (may_make (rules.Page before.current) rules.Names limit before.greatest e step.made before.ats between.ats step.turned, later.one_each);
        stands = later.stands;
        replies = later.replies ∙ ap (λ n. fold (λ m made. up_by made.replies m) n later.makes) step.replies;
        changes = later.changes ∙ ap (up_by (length (texts_in events))) step.changes ∙ counted_more (text_of e) (texts_in events) before.changes;
        refused = later.refused ∙ ap (up_by (length (refused_in texts between.current events))) step.refused
            ∙ ap (λ d. up_by (length (refused_in texts d events)) (up_by (length (refused_of (texts.accepts before.current) e)) before.refused)) step.current
            ∙ counted_more (refused_of (texts.accepts before.current) e) (refused_in texts (state_after texts.changed e before.current) events) before.refused;
        keeps = (between.cache, step.cache, subst (λ d. AllKept site templates texts d events later.makes between.cache after.cache) step.current later.keeps);
      }

  -- from the first event on
  pub steps_of : (start : D) (events : List WireEvent) (first last : Scene D Kept) → first.current ≡ start → first.greatest ≡ None → ((k : ℕ) → (first.ats k).line ≡ None)
      → (trace : List Happening) → PassesAll rules limit first events last trace
      → After first.ats (λ k. record { current = first_when start; greatest = None; input = Unopened }) (λ k. no_counts) (first_when start) events first last
  steps_of start events first last current none_open closed trace passes =
      all_steps first.ats events (λ k. record { current = first_when start; greatest = None; input = Unopened }) (λ k. no_counts) (first_when start) first last
      (sym current) (λ k. refl) (λ k. sym none_open) (λ k. record { stands = (closed k, refl, refl); opened = tt }) trace passes

-- the events that were taken, and the run as it is after them: out of memory for a change, nothing is made of it
pub record Whole {D : Type 0} (made_by : Rules D Kept) (limit : ℕ) (ended : HubEnd) (first : Scene D Kept) (events : List WireEvent) (last : Scene D Kept) : Type 0 where
  pub taken : List WireEvent
  pub all_taken : AreTaken ended events taken
  pub end : Scene D Kept
  pub trace : List Happening
  pub passes : PassesAll made_by limit first taken end trace
  pub ats : (k : ℕ) → last.ats k ≡ end.ats k
  pub opened : last.opened ≡ end.opened
  pub replies : last.replies ≡ end.replies
  pub changes : last.changes ≡ end.changes
  pub refused : last.refused ≡ end.refused
  pub found : made_by.found last.cache ≡ made_by.found end.cache

pub whole : {D : Type 0} (made_by : Rules D Kept) (limit : ℕ) (ended : HubEnd) (first : Scene D Kept) (events : List WireEvent) (last : Scene D Kept) (trace : List Happening) → IsCourse made_by limit ended first events last trace → Whole made_by limit ended first events last
whole made_by limit ended first events last trace (inl passes) = record {
  taken = events;
  all_taken = inl refl;
  end = last;
  trace = trace;
  passes = passes;
  ats = λ k. refl;
  opened = refl;
  replies = refl;
  changes = refl;
  refused = refl;
  found = refl;
}
whole made_by limit ended first events last trace (inr (short, front, text, between, done, part, is, passes, stay, told, added)) = record {
  taken = front;
  all_taken = inr (short, text, is);
  end = between;
  trace = done;
  passes = passes;
  ats = stay.ats;
  opened = stay.opened;
  replies = stay.replies;
  changes = stay.changes;
  refused = stay.refused;
  found = stay.found;
}
