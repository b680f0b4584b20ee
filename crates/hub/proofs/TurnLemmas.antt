-- One event more, for every connection.
use Rattle.std.proofs.Common.{◌≡◌, ◌≢◌, ℕ, ◌+◌, ◌<◌, ◌≤◌, Bool, true, false, ◌==◌, ◌&&◌, List, [], ◌∷◌, ◌++◌, refl, sym, ap, ◌∙◌, subst, arith, ◌⊎◌, inl, inr, append-nil, Option, Some, None, Ok, Err, lit<, if◌then◌else◌}
use Rattle.std.specs.Prelude.{MatchBool}
use Rattle.std.proofs.lemmas.Bool.Decides.{nat_tests}
use Rattle.sd_value.specs.declared.Term.{Term}
use Rattle.http_spec.specs.declared.Standing.{Standing}
use Rattle.http_spec.specs.declared.Standing.TheVariants.{Open, Closed, Short}
use Rattle.http_spec.specs.Sessions.{Showing}
use Rattle.http_spec.specs.Streams.{Timed, timed}
use Rattle.http_spec.proofs.HeadLemmas.{no_head_nil}
use Rattle.wire.specs.Accounts.{Account, up_by}
use Rattle.happenings.specs.declared.event.WireEvent.{WireEvent}
use Rattle.happenings.specs.declared.event.WireEvent.TheVariants.{Opened, Bytes, Ended, Lost as LostEvent, Change, Done}
use Rattle.serving_spec.specs.Delivered.{closing}
use Rattle.hub.specs.Line.{Line}
use Rattle.serving_spec.specs.Inputs.{Input, Unopened, Coming, Over, Moment, more_of, over_of, after_event}
use Rattle.serving_spec.specs.Sent.{FrontOf}
use Rattle.serving_spec.specs.Counted.{Counts, no_counts, counts_with, HasCounts, is_of}
use Rattle.hub.specs.Moments.{SettledAt, IsOpenAt, IsOverAt, StandsComing, StandsFor, IsBelow, WasOpened, CountedStands}
use Rattle.serving_spec.specs.Made.{Made, nothing}
use Rattle.hub.specs.Turns.{At, StepEnd, account_after, EndSteps, IsPieceServed, IsFinished, IsUnopened, Opens, TakesPiece, Finishes, OthersStay, Turned, kept_after, Keeps}
use Rattle.serving_spec.specs.Openings.{counts}
use Rattle.hub.proofs.StandLemmas.{over_later, over_ended, over_settled, all_on, cut_on, settled_on, open_more, answer_more, front_more, end_more, front_end, so_far}

-- memory was missing for the connection
over_unopened : {D : Type 0} (page : D → Showing) (Names : List ℕ → Term → Type 0) (limit : ℕ) (end : StepEnd) (account : Option Account) (first now : At) → IsUnopened end first.account account first.faults now.faults
    → now.account ≡ account_after end account → IsOverAt page Names limit no_counts [] first now
over_unopened page Names limit (Ok standing) account first now (replies, (short, is), sent, faults) closed =
    inl (
      record {
        standing = standing;
        replies = replies;
        answer = inr (short, is, refl);
        account = closed ∙ ap (closing standing) sent;
        faults = faults;
      },
      λ e. (let never : Short ≡ Open = sym short ∙ e in cc),
    )
over_unopened page Names limit (Err failed) account first now (would, before, next, some, (short, is), sent, rose) same =
    inr record {
      standing = would;
      sent = before;
      next = next;
      some = some;
      answer = record { front = []; more = []; at_end = false; cut = refl; ends_so = λ e. absurd (let never : false ≡ true = e in cc); answer = inr (short, is, refl) };
      account = same ∙ sent;
      faults = rose;
    }

-- the connection is opened
turn_opens : {D : Type 0} (page : D → Showing) (Names : List ℕ → Term → Type 0) (limit : ℕ) (first before after : At) → 0 < limit → before ≡ first → Opens limit before after → StandsComing page Names limit no_counts [] after.line first after
turn_opens page Names limit first before after some same (inl opened) =
    subst (λ (a : At). StandsComing page Names limit no_counts [] a.line first a) (sym opened) record {
      requests = [];
      rest = [];
      replies = [];
      session = record { cut = refl; answered = refl };
      none = no_head_nil;
      room = lit< tt;
      rest_is = refl;
      left = let zero : limit + 0 ≡ limit = omega arith in zero;
      some = some;
      account = ap (λ (a : At). a.account) same;
      faults = ap (λ (a : At). a.faults) same;
      count = refl;
      looks = refl;
    }
turn_opens page Names limit first before after some same (inr (end, account, sent, closed, gone)) =
    subst (λ l. StandsComing page Names limit no_counts [] l first after) (sym gone)
    (over_unopened page Names limit end account first after (subst (λ (b : At). IsUnopened end b.account account b.faults after.faults) same sent) closed)

-- nothing more is counted
counts_same : {D : Type 0} (counted : Counts D) (d : D) (made : Made) → made ≡ nothing → counts_with counted d made ≡ counted
counts_same {D} counted d made none =
    let zero_more : counted.replies + 0 ≡ counted.replies = omega arith in
    let none_more = append-nil counted.looked in
    let still : counts_with counted d nothing ≡ counted = λ i. record { replies = zero_more i; looked = none_more i } in
    ap (λ (m : Made). counts_with counted d m) none ∙ still

-- a piece of an open connection
module _ {D : Type 0} (page : D → Showing) (Names : List ℕ → Term → Type 0) (made : Made) (d : D) (limit : ℕ) (counted : Counts D) (stream : List (Timed D)) (piece : List ℕ) (line : Line) (first before after : At) (held : Line)
    (account : Option Account) (open_at : IsOpenAt page Names limit counted stream line first before) where
  abbrev Answer : Standing → List (List ℕ) → Type 0
  Answer = HasCounts page Names limit (counts_with counted d made) (stream ++ timed d piece) false

  abbrev Front : Standing → List (List ℕ) → Type 0
  Front = FrontOf (HasCounts page Names limit (counts_with counted d made)) (stream ++ timed d piece) false

  piece_over : (standing : Standing) → (standing ≢ Open) → IsPieceServed (page d) Names line piece made (Ok standing) held before.account account before.faults after.faults
      → after.account ≡ closing standing account → IsOverAt page Names limit (counts_with counted d made) (stream ++ timed d piece) first after
  piece_over standing over (replies, is, sent, faults) closed =
      inl (
        all_on page Names d limit counted stream line first before open_at Answer standing replies account after
            (answer_more page Names d limit counted stream line first before open_at piece is.0 standing held replies made is.1 is.2) sent faults closed,
        over,
      )

  piece_open : (end : StepEnd) → IsPieceServed (page d) Names line piece made end held before.account account before.faults after.faults
      → after.account ≡ account_after end account → after.line ≡ kept_after end held
      → StandsComing page Names limit (counts_with counted d made) (stream ++ timed d piece) after.line first after
  piece_open (Ok Open) (replies, (heads, step, makes), sent, faults) closed kept =
      subst (λ l. StandsComing page Names limit (counts_with counted d made) (stream ++ timed d piece) l first after) (sym kept)
      (open_more page Names d limit counted stream line first before open_at piece heads held replies made after step makes (closed ∙ sent) faults)
  piece_open (Ok Closed) served closed kept =
      subst (λ l. StandsComing page Names limit (counts_with counted d made) (stream ++ timed d piece) l first after) (sym kept) (piece_over Closed (λ e. cc) served closed)
  piece_open (Ok Short) served closed kept =
      subst (λ l. StandsComing page Names limit (counts_with counted d made) (stream ++ timed d piece) l first after) (sym kept) (piece_over Short (λ e. cc) served closed)
  piece_open (Err failed) (would, sent, next, some, is, account_is, rose) same kept =
      subst (λ l. StandsComing page Names limit (counts_with counted d made) (stream ++ timed d piece) l first after) (sym kept)
      (inr (cut_on page Names d limit counted stream line first before open_at Front would sent next some after
      (front_more page Names d limit counted stream line first before open_at piece is.0 would (sent ++ next ∷ []) made is.1 is.2) (same ∙ account_is) rose))

-- a piece
turn_piece : {D : Type 0} (page : D → Showing) (Names : List ℕ → Term → Type 0) (made : Made) (d : D) (limit : ℕ) (counted : Counts D) (piece : List ℕ) (input : Input D) (line : Option Line) (first before after : At) → before.line ≡ line
    → StandsFor page Names limit counted input first before → TakesPiece (page d) Names piece made line before after
    → StandsFor page Names limit (counts_with counted d made) (more_of (timed d piece) input) first after
turn_piece {D} page Names made d limit counted piece input None first before after is stands (same, none) =
    subst (λ c. StandsFor page Names limit c (more_of (timed d piece) input) first after) (sym (counts_same counted d made none))
    (subst (λ a. StandsFor page Names limit counted (more_of (timed d piece) input) first a) (sym same) (by_input input stands))
  where
    by_input : (input : Input D) → StandsFor page Names limit counted input first before → StandsFor page Names limit counted (more_of (timed d piece) input) first before
    by_input Unopened stands = stands
    by_input (Coming stream) stands =
        let over = subst (λ l. StandsComing page Names limit counted stream l first before) is stands in
        subst (λ l. StandsComing page Names limit counted (stream ++ timed d piece) l first before) (sym is)
        (over_later page Names limit counted stream first before (timed d piece) over)
    by_input (Over ended stream) stands = stands
turn_piece {D} page Names made d limit counted piece Unopened (Some line) first before after is stands step =
    absurd (let never : None ≡ Some line = sym stands.0 ∙ sym (ap (λ (a : At). a.line) stands.1) ∙ is in cc)
turn_piece {D} page Names made d limit counted piece (Coming stream) (Some line) first before after is stands (end, held, account, served, closed, kept) =
    piece_open page Names made d limit counted stream piece line first before after held account
    (subst (λ l. StandsComing page Names limit counted stream l first before) is stands) end served closed kept
turn_piece {D} page Names made d limit counted piece (Over ended stream) (Some line) first before after is stands step =
    absurd (let never : None ≡ Some line = sym stands.0 ∙ is in cc)

-- the end of an open connection's input
finish_open : {D : Type 0} (page : D → Showing) (Names : List ℕ → Term → Type 0) (made : Made) (d : D) (limit : ℕ) (counted : Counts D) (stream : List (Timed D)) (line : Line) (first before after : At) (end : StepEnd) (account : Option Account)
    → IsOpenAt page Names limit counted stream line first before → IsFinished line.rest made end before.account account before.faults after.faults
    → after.account ≡ account_after end account → SettledAt page Names limit (counts_with counted d made) stream true first after
finish_open page Names made d limit counted stream line first before after end account open_at sent closed =
    settled_on page Names d limit counted stream line first before open_at (EndSteps line.rest made) (EndSteps line.rest made)
    (HasCounts page Names limit (counts_with counted d made) stream true) (FrontOf (HasCounts page Names limit (counts_with counted d made)) stream true) end account after
    (λ standing replies is. end_more page Names d limit counted stream line first before open_at made standing replies is)
    (λ would replies is. front_end page Names d limit counted stream line first before open_at made would replies is) sent closed

turn_end : {D : Type 0} (page : D → Showing) (Names : List ℕ → Term → Type 0) (made : Made) (d : D) (limit : ℕ) (counted : Counts D) (input : Input D) (line : Option Line) (first before after : At) → before.line ≡ line
    → StandsFor page Names limit counted input first before → Finishes made line before after → StandsFor page Names limit (counts_with counted d made) (over_of true input) first after
turn_end {D} page Names made d limit counted input None first before after is stands (same, none) =
    subst (λ c. StandsFor page Names limit c (over_of true input) first after) (sym (counts_same counted d made none))
    (subst (λ a. StandsFor page Names limit counted (over_of true input) first a) (sym same) (by_input input stands))
  where
    by_input : (input : Input D) → StandsFor page Names limit counted input first before → StandsFor page Names limit counted (over_of true input) first before
    by_input Unopened stands = stands
    by_input (Coming stream) stands =
        let over = subst (λ l. StandsComing page Names limit counted stream l first before) is stands in
        (is, over_ended page Names limit counted stream first before over)
    by_input (Over ended stream) stands = stands
turn_end {D} page Names made d limit counted Unopened (Some line) first before after is stands step =
    absurd (let never : None ≡ Some line = sym stands.0 ∙ sym (ap (λ (a : At). a.line) stands.1) ∙ is in cc)
turn_end {D} page Names made d limit counted (Coming stream) (Some line) first before after is stands (end, account, sent, closed, gone) =
    (gone, finish_open page Names made d limit counted stream line first before after end account (subst (λ l. StandsComing page Names limit counted stream l first before) is stands) sent closed)
turn_end {D} page Names made d limit counted (Over ended stream) (Some line) first before after is stands step =
    absurd (let never : None ≡ Some line = sym stands.0 ∙ is in cc)

-- the connection is forgotten
abbrev gone_from : At → At
gone_from a = record { line = None; account = a.account; faults = a.faults }

turn_lost : {D : Type 0} (page : D → Showing) (Names : List ℕ → Term → Type 0) (d : D) (limit : ℕ) (counted : Counts D) (input : Input D) (line : Option Line) (first before after : At) → before.line ≡ line
    → StandsFor page Names limit counted input first before → after ≡ gone_from before → StandsFor page Names limit counted (over_of false input) first after
turn_lost {D} page Names d limit counted input line first before after is stands same =
    subst (λ a. StandsFor page Names limit counted (over_of false input) first a) (sym same) (by_input input line is stands)
  where
    moved : (stream : List (Timed D)) (ended : Bool) → SettledAt page Names limit counted stream ended first before → SettledAt page Names limit counted stream ended first (gone_from before)
    moved stream ended settled = settled

    by_input : (input : Input D) (line : Option Line) → before.line ≡ line → StandsFor page Names limit counted input first before → StandsFor page Names limit counted (over_of false input) first (gone_from before)
    by_input Unopened line is stands =
        (stands.0, ap gone_from stands.1 ∙ ap (λ (l : Option Line). record { line = l; account = first.account; faults = first.faults }) (sym stands.0), stands.2)
    by_input (Coming stream) None is stands =
        let over = subst (λ l. StandsComing page Names limit counted stream l first before) is stands in
        (refl, moved stream false (over_settled page Names limit counted stream first before over))
    by_input (Coming stream) (Some line) is stands =
        let open_at : IsOpenAt page Names limit counted stream line first before = subst (λ l. StandsComing page Names limit counted stream l first before) is stands in (
          refl,
          inl record {
            standing = Open;
            replies = open_at.replies;
            answer = so_far page Names d limit counted stream line first before open_at;
            account = open_at.account;
            faults = open_at.faults;
          },
        )
    by_input (Over ended stream) line is stands = (refl, moved stream ended stands.1)

opened_more : {D : Type 0} (k : ℕ) (greatest : Option ℕ) (bytes : List (Timed D)) (input : Input D) → WasOpened k greatest input → WasOpened k greatest (more_of bytes input)
opened_more k greatest bytes Unopened was = was
opened_more k greatest bytes (Coming stream) was = was
opened_more k greatest bytes (Over ended stream) was = was

opened_over : {D : Type 0} (k : ℕ) (greatest : Option ℕ) (ended : Bool) (input : Input D) → WasOpened k greatest input → WasOpened k greatest (over_of ended input)
opened_over k greatest ended Unopened was = was
opened_over k greatest ended (Coming stream) was = was
opened_over k greatest ended (Over before stream) was = was

-- a greater number is opened
below_more : (k number : ℕ) (greatest : Option ℕ) → counts greatest number ≡ true → IsBelow k greatest → IsBelow k (Some number)
below_more k number None counted below = absurd below
below_more k number (Some greatest) counted below = grind (arith, nat_tests)

opened_next : {D : Type 0} (k number : ℕ) (greatest : Option ℕ) (input : Input D) → counts greatest number ≡ true → WasOpened k greatest input → WasOpened k (Some number) input
opened_next k number greatest Unopened counted was = was
opened_next k number greatest (Coming stream) counted was = below_more k number greatest counted was
opened_next k number greatest (Over ended stream) counted was = below_more k number greatest counted was

not_below : (number : ℕ) (greatest : Option ℕ) → counts greatest number ≡ true → IsBelow number greatest → ⊥
not_below number None counted below = below
not_below number (Some greatest) counted below = grind (arith, nat_tests)

-- a number that counts was not opened before
first_time : {D : Type 0} (page : D → Showing) (Names : List ℕ → Term → Type 0) (limit number : ℕ) (counted : Counts D) (greatest : Option ℕ) (input : Input D) (first before : At) → counts greatest number ≡ true → WasOpened number greatest input
    → StandsFor page Names limit counted input first before → (before ≡ first) × (counted ≡ no_counts)
first_time page Names limit number counted greatest Unopened first before fresh was stands = (stands.1, stands.2)
first_time page Names limit number counted greatest (Coming stream) first before fresh was stands = absurd (not_below number greatest fresh was)
first_time page Names limit number counted greatest (Over ended stream) first before fresh was stands = absurd (not_below number greatest fresh was)

-- a test of the number
test_cases : (a b : ℕ) → (((a == b) ≡ true) × (a ≡ b)) ⊎ (((a == b) ≡ false) × (b ≢ a))
test_cases a b = by_test (a == b) refl
  where
    by_test : (t : Bool) → (a == b) ≡ t → (((a == b) ≡ true) × (a ≡ b)) ⊎ (((a == b) ≡ false) × (b ≢ a))
    by_test true is = inl (is, let same : a ≡ b = grind (arith, nat_tests) in same)
    by_test false is = inr (is, λ e. grind (arith, nat_tests))

bool_cases : (b : Bool) → (b ≡ true) ⊎ (b ≡ false)
bool_cases true = inl refl
bool_cases false = inr refl

chosen : (b : Bool) (X Y : Type 0) → b ≡ true → MatchBool b X Y → X
chosen true X Y e x = x
chosen false X Y e y = cc

other : (b : Bool) (X Y : Type 0) → b ≡ false → MatchBool b X Y → Y
other true X Y e x = cc
other false X Y e y = y

-- One event more.
module _ {D : Type 0} (page : D → Showing) (Names : List ℕ → Term → Type 0) (next : WireEvent → D → D) (limit k : ℕ) (m : Moment D) (counted : Counts D) (first : At) (made : Made) (before after : ℕ → At) (some : 0 < limit)
    (stands : CountedStands page Names limit k m counted first (before k)) where
  abbrev counted_then : Counts D
  counted_then = counts_with counted m.current made

  stays_so : (moment : Moment D) → moment.input ≡ m.input → moment.greatest ≡ m.greatest → after k ≡ before k → CountedStands page Names limit k moment counted first (after k)
  stays_so moment input greatest same = record {
    stands = subst (λ a. StandsFor page Names limit counted moment.input first a) (sym same) (subst (λ i. StandsFor page Names limit counted i first (before k)) (sym input) stands.stands);
    opened = subst (λ g. WasOpened k g moment.input) (sym greatest) (subst (λ i. WasOpened k m.greatest i) (sym input) stands.opened);
  }

  -- where nothing was made, it is the same whose event it is
  either : (t : Bool) (moment : Moment D) → made ≡ nothing → CountedStands page Names limit k moment counted first (after k)
      → CountedStands page Names limit k moment (if t then counted_then else counted) first (after k)
  either true moment none there = subst (λ c. CountedStands page Names limit k moment c first (after k)) (sym (counts_same counted m.current made none)) there
  either false moment none there = there

  -- an event of one connection, after which this is current
  of_number : (later : D) (number : ℕ) (now : Input D) → (number ≡ k → StandsFor page Names limit counted_then now first (after k)) → WasOpened k m.greatest now → OthersStay number before after
      → CountedStands page Names limit k (record { current = later; greatest = m.greatest; input = if number == k then now else m.input }) (if number == k then counted_then else counted) first (after k)
  of_number later number now own was others = by_case (test_cases number k)
    where
      Goal : Bool → Type 0
      Goal t = CountedStands page Names limit k (record { current = later; greatest = m.greatest; input = if t then now else m.input }) (if t then counted_then else counted) first (after k)

      by_case : (((number == k) ≡ true) × (number ≡ k)) ⊎ (((number == k) ≡ false) × (k ≢ number)) → Goal (number == k)
      by_case (inl (is, same)) = subst Goal (sym is) record { stands = own same; opened = was }
      by_case (inr (is, apart)) = subst Goal (sym is) (stays_so (record { current = later; greatest = m.greatest; input = m.input }) refl refl (others k apart))

  opened_turn : (number : ℕ) → Turned (page m.current) Names limit m.greatest (Opened number) made before after → CountedStands page Names limit k (after_event next k m (Opened number)) counted first (after k)
  opened_turn number (own, others, none) = by_count (bool_cases (counts m.greatest number))
    where
      later : D
      later = next (Opened number) m.current

      Counted : Bool → Type 0
      Counted t = CountedStands page Names limit k (record { current = later; greatest = if t then Some number else m.greatest; input = if t && (number == k) then Coming [] else m.input }) counted first (after k)

      Numbered : Bool → Type 0
      Numbered t = CountedStands page Names limit k (record { current = later; greatest = Some number; input = if t then Coming [] else m.input }) counted first (after k)

      by_number : counts m.greatest number ≡ true → (((number == k) ≡ true) × (number ≡ k)) ⊎ (((number == k) ≡ false) × (k ≢ number)) → Numbered (number == k)
      by_number fresh (inl (is, same)) =
          let opens : Opens limit (before number) (after number) = chosen (counts m.greatest number) _ _ fresh own in
          let here : Opens limit (before k) (after k) = subst (λ n. Opens limit (before n) (after n)) same opens in
          let was : counts m.greatest k ≡ true = subst (λ n. counts m.greatest n ≡ true) same fresh in
          let start = first_time page Names limit k counted m.greatest m.input first (before k) was stands.opened stands.stands in
          subst Numbered (sym is) record {
            stands = subst (λ c. StandsComing page Names limit c [] (after k).line first (after k)) (sym start.1) (turn_opens page Names limit first (before k) (after k) some start.0 here);
            opened = let le : k ≤ number = omega (arith, same) in le;
          }
      by_number fresh (inr (is, apart)) = subst Numbered (sym is) record {
        stands = subst (λ a. StandsFor page Names limit counted m.input first a) (sym (others k apart)) stands.stands;
        opened = opened_next k number m.greatest m.input fresh stands.opened;
      }

      same_at : after number ≡ before number → after k ≡ before k
      same_at same = by_same (test_cases number k)
        where
          by_same : (((number == k) ≡ true) × (number ≡ k)) ⊎ (((number == k) ≡ false) × (k ≢ number)) → after k ≡ before k
          by_same (inl (is, e)) = subst (λ n. after n ≡ before n) e same
          by_same (inr (is, apart)) = others k apart

      by_count : (counts m.greatest number ≡ true) ⊎ (counts m.greatest number ≡ false) → Counted (counts m.greatest number)
      by_count (inl fresh) = subst Counted (sym fresh) (by_number fresh (test_cases number k))
      by_count (inr passed) = subst Counted (sym passed) (stays_so (record { current = later; greatest = m.greatest; input = m.input }) refl refl (same_at (other (counts m.greatest number) _ _ passed own)))

  pub stands_turn : (event : WireEvent) → Turned (page m.current) Names limit m.greatest event made before after
      → CountedStands page Names limit k (after_event next k m event) (if is_of k event then counted_then else counted) first (after k)
  stands_turn (Opened number) (own, others, none) =
      either (number == k) (after_event next k m (Opened number)) none (opened_turn number (own, others, none))
  stands_turn (Bytes number piece) (own, others) =
      of_number (next (Bytes number piece) m.current) number (more_of (timed m.current piece) m.input)
      (λ same. turn_piece page Names made m.current limit counted piece m.input (before k).line first (before k) (after k) refl stands.stands
      (subst (λ n. TakesPiece (page m.current) Names piece made (before n).line (before n) (after n)) same own))
      (opened_more k m.greatest (timed m.current piece) m.input stands.opened) others
  stands_turn (Ended number) (own, others) =
      of_number (next (Ended number) m.current) number (over_of true m.input)
      (λ same. turn_end page Names made m.current limit counted m.input (before k).line first (before k) (after k) refl stands.stands
      (subst (λ n. Finishes made (before n).line (before n) (after n)) same own))
      (opened_over k m.greatest true m.input stands.opened) others
  stands_turn (LostEvent number) (own, others, none) =
      of_number (next (LostEvent number) m.current) number (over_of false m.input)
      (λ same. subst (λ c. StandsFor page Names limit c (over_of false m.input) first (after k)) (sym (counts_same counted m.current made none))
      (turn_lost page Names m.current limit counted m.input (before k).line first (before k) (after k) refl stands.stands
      (subst (λ n. after n ≡ gone_from (before n)) same own)))
      (opened_over k m.greatest false m.input stands.opened) others
  stands_turn (Change text) (turned, none) = stays_so (record { current = next (Change text) m.current; greatest = m.greatest; input = m.input }) refl refl (turned k)
  stands_turn Done (turned, none) = stays_so (record { current = next Done m.current; greatest = m.greatest; input = m.input }) refl refl (turned k)

-- what an event does and makes, told of the event as it is written
pub told_at : {C : Type 0} (page : Showing) (Names : List ℕ → Term → Type 0) (limit : ℕ) (greatest : Option ℕ) (e x : WireEvent) (made : Made) (before after : ℕ → At) (replies later : ℕ)
    (Looks : C → Term → C → Type 0) (Renews : List ℕ → C → C → Type 0) (cache now : C) (A : Type 0) → e ≡ x
    → Turned page Names limit greatest x made before after → later ≡ up_by made.replies replies → (A → Keeps Looks Renews x made cache now)
    → (m : Made) × Turned page Names limit greatest e m before after × (later ≡ up_by m.replies replies) × (A → Keeps Looks Renews e m cache now)
told_at page Names limit greatest e x made before after replies later Looks Renews cache now A is turned count keeps = (
  made,
  subst (λ y. Turned page Names limit greatest y made before after) (sym is) turned,
  count,
  λ a. subst (λ y. Keeps Looks Renews y made cache now) (sym is) (keeps a),
)
