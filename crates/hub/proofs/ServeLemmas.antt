-- One more ask of a connection, where its reply is one send.
use Rattle.std.proofs.Common.{◌≡◌, ◌≢◌, ◌⊎◌, ℕ, ◌+◌, ◌-◌, Bool, true, false, ◌||◌, ◌==◌, List, [], ◌∷◌, ◌++◌, length, refl, sym, ap, ◌∙◌, subst, arith, take, drop, get_or, Option, Some, None, Ok, Err, inl, inr}
use Rattle.std.proofs.lemmas.List.{append-nil, take-append-drop}
use Rattle.edge_io.specs.Counts.{Rose}
use Rattle.edge_io.specs.declared.sink.Failed.{Failed}
use Rattle.page_spec.specs.declared.Outcome.{Outcome}
use Rattle.sd_value.specs.declared.Term.{Term}
use Rattle.http_spec.specs.declared.ParsedRequest.{ParsedRequest}
use Rattle.http_spec.specs.declared.Standing.{Standing}
use Rattle.http_spec.specs.declared.Standing.TheVariants.{Open, Closed, Short}
use Rattle.http_spec.specs.Asks.{bad_request}
use Rattle.http_spec.specs.Heads.{AreLineEnds}
use Rattle.http_spec.specs.Replies.{reply_bytes, no_memory_bytes}
use Rattle.http_spec.specs.Sessions.{Showing, IsLookedUp}
use Rattle.http_reply.specs.Feeding.{Held, FedCase, EndsWith}
use Rattle.wire.specs.Accounts.{Account, send_to, gain, up}
use Rattle.hub.specs.Line.{Line}
use Rattle.serving_spec.specs.Made.{Made, LooksUp, replies_in}
use Rattle.hub.specs.Makes.{LooksFor, LooksUpAll, Makes}
use Rattle.hub.proofs.MadeLemmas.{looks_asked, short_few, count_open, count_short}
use Rattle.hub.specs.Pieces.{Answered, AtEnd, StaysOpen}
use Rattle.hub.specs.Turns.{StepEnd, IsSent, IsUnopened, IsFinished, EndSteps, Reply, FrontReplies, IsPieceServed, IsAnswered}
use Rattle.hub.proofs.StepLemmas.{answered_open, answered_closed, answered_short, heads_after}

-- one more reply
pub gain_more : (a : Option Account) (replies : List (List ℕ)) (reply : List ℕ) → gain a (replies ++ reply ∷ []) ≡ send_to (gain a replies) reply
gain_more a [] reply = refl
gain_more a (r ∷ replies) reply = gain_more (send_to a r) replies reply

pub gain_append : (a : Option Account) (replies more : List (List ℕ)) → gain a (replies ++ more) ≡ gain (gain a replies) more
gain_append a [] more = refl
gain_append a (r ∷ replies) more = gain_append (send_to a r) replies more

-- an answer, after other replies
shifted : (page : Showing) (ask : ParsedRequest) (target : List ℕ) (last : Bool) (would : Standing) (mid : List (List ℕ)) (reply : List ℕ)
    → Answered page ask target last would [] (reply ∷ []) → Answered page ask target last would mid (mid ++ reply ∷ [])
shifted page ask target last Open mid reply (outcome, up, close, e) = (outcome, up, close, ap (λ x. mid ++ x) e)
shifted page ask target last Closed mid reply (outcome, up, close, e) = (outcome, up, close, ap (λ x. mid ++ x) e)
shifted page ask target last Short mid reply e = ap (λ x. mid ++ x) e

-- the answer of the reader's ask, with the outcomes as they were at first
pub answered_now : {D : Type 0} (page : D → Showing) (Names : List ℕ → Term → Type 0) (made : Made) (told end : StepEnd) (now first : D) (ask : ParsedRequest) (given target : List ℕ) (left : ℕ)
    (old new : Option Account) (f h : ℕ) → told ≡ end → now ≡ first → given ≡ target → IsAnswered (page now) Names ask given (left == 1) made told old new f h
    → IsAnswered (page first) Names ask target (left == 1) made end old new f h
answered_now {D} page Names made told end now first ask given target left old new f h so current same answered =
    let Told : StepEnd → Type 0 = λ e. IsAnswered (page now) Names ask given (left == 1) made e old new f h in
    let Of : D → Type 0 = λ d. IsAnswered (page d) Names ask given (left == 1) made end old new f h in
    let At : List ℕ → Type 0 = λ t. IsAnswered (page first) Names ask t (left == 1) made end old new f h in
    subst At same (subst Of current (subst Told so answered))

module _ (page : Showing) (Names : List ℕ → Term → Type 0) (before : Line) (piece p : List ℕ) (from taken : ℕ) (held : Line) (after : Held) (mid : List (List ℕ))
    (is : p ≡ drop from piece) (stays : StaysOpen page before (take from piece) held [] mid)
    (ask : ParsedRequest) (fed : FedCase page.hosts held.rest p taken (Some ask) after) (first now new : Option Account) (f g h : ℕ)
    (account : now ≡ gain first mid) (fine : g ≡ f) (looked : List Term) (look_ups : LooksUpAll page.hosts Names stays.heads looked) (made : Made) where
  -- all that was made up to this reply
  abbrev pub so_many : Made
  so_many = record { replies = length mid + made.replies; terms = looked ++ made.terms }

  -- what is made where the reply leaves it open or closes it, and where memory is missing for it
  makes_open : (reply : List ℕ) → made.replies ≡ replies_in Open (reply ∷ []) → LooksUp Names ask.kind after.target made.terms
      → Makes page.hosts Names Open (heads_after page.hosts held.rest p taken ask after fed stays.heads) (mid ++ reply ∷ []) so_many
  makes_open reply one up = record {
    looked = looked ++ made.terms;
    extra = [];
    count = count_open mid reply made one;
    look_ups = looks_asked page.hosts Names held.rest p taken ask after fed stays.heads looked made.terms look_ups up;
    may = refl;
    terms = sym (append-nil (looked ++ made.terms));
  }

  makes_closed : (reply : List ℕ) → made.replies ≡ replies_in Closed (reply ∷ []) → LooksUp Names ask.kind after.target made.terms
      → Makes page.hosts Names Closed (heads_after page.hosts held.rest p taken ask after fed stays.heads) (mid ++ reply ∷ []) so_many
  makes_closed reply one up = record {
    looked = looked ++ made.terms;
    extra = [];
    count = count_open mid reply made one;
    look_ups = looks_asked page.hosts Names held.rest p taken ask after fed stays.heads looked made.terms look_ups up;
    may = refl;
    terms = sym (append-nil (looked ++ made.terms));
  }

  makes_short : (reply : List ℕ) → made.replies ≡ replies_in Short (reply ∷ []) → (made.terms ≡ []) ⊎ LooksUp Names ask.kind after.target made.terms
      → Makes page.hosts Names Short stays.heads (mid ++ reply ∷ []) so_many
  makes_short reply none up = record {
    looked = looked;
    extra = made.terms;
    count = count_short mid reply made none;
    look_ups = look_ups;
    may = short_few Names ask.kind after.target made.terms up;
    terms = refl;
  }

  one_more : (reply : List ℕ) → new ≡ gain now (reply ∷ []) → new ≡ gain first (mid ++ reply ∷ [])
  one_more reply e = e ∙ ap (λ a. send_to a reply) account ∙ sym (gain_more first mid reply)

  -- the replies after this one
  one_reply : (would : Standing) (replies : List (List ℕ)) (r : Reply page Names ask after.target (held.left == 1) made would replies) → new ≡ gain now replies
      → new ≡ gain first (mid ++ r.reply ∷ [])
  one_reply would replies r e = one_more r.reply (e ∙ ap (gain now) r.one)

  pub serve_open : IsAnswered page Names ask after.target (held.left == 1) made (Ok Open) now new g h
      → (replies : List (List ℕ)) × (s : StaysOpen page before (take (from + taken) piece) (record { rest = after.rest; left = held.left - 1 }) [] replies)
      × (new ≡ gain first replies) × LooksUpAll page.hosts Names s.heads (looked ++ made.terms) × (length replies ≡ length mid + made.replies)
  serve_open (replies, r, account_is, faults_are) =
      let opened = answered_open page before piece p from taken held after [] mid (mid ++ r.reply ∷ []) is stays ask fed
      (shifted page ask after.target (held.left == 1) Open mid r.reply r.answers) in (
        mid ++ r.reply ∷ [],
        opened.0,
        one_reply Open replies r account_is,
        subst (λ heads. LooksUpAll page.hosts Names heads (looked ++ made.terms)) (sym opened.1)
            (looks_asked page.hosts Names held.rest p taken ask after fed stays.heads looked made.terms look_ups r.looks),
        sym (count_open mid r.reply made r.count),
      )

  serve_closed : (then : Line) → IsAnswered page Names ask after.target (held.left == 1) made (Ok Closed) now new g h
      → IsPieceServed page Names before piece so_many (Ok Closed) then first new f h
  serve_closed then (replies, r, account_is, faults_are) = (
    mid ++ r.reply ∷ [],
    (
      heads_after page.hosts held.rest p taken ask after fed stays.heads,
      answered_closed page before piece p from taken held after [] mid (mid ++ r.reply ∷ []) is stays ask then fed
          (shifted page ask after.target (held.left == 1) Closed mid r.reply r.answers),
      makes_closed r.reply r.count r.looks,
    ),
    one_reply Closed replies r account_is,
    faults_are ∙ fine,
  )

  serve_short : (then : Line) → IsAnswered page Names ask after.target (held.left == 1) made (Ok Short) now new g h
      → IsPieceServed page Names before piece so_many (Ok Short) then first new f h
  serve_short then (replies, r, account_is, faults_are) = (
    mid ++ r.reply ∷ [],
    (
      stays.heads,
      answered_short page before piece p from taken held after [] mid (mid ++ r.reply ∷ []) is stays ask then fed
          (shifted page ask after.target (held.left == 1) Short mid r.reply r.answers),
      makes_short r.reply r.count r.looks,
    ),
    one_reply Short replies r account_is,
    faults_are ∙ fine,
  )

  -- the replies up to this one, whatever it would have done
  front : (would : Standing) (reply : List ℕ) → Answered page ask after.target (held.left == 1) would mid (mid ++ reply ∷ [])
      → made.replies ≡ replies_in would (reply ∷ []) → LooksFor Names would ask.kind after.target made.terms
      → FrontReplies page Names before piece so_many would (mid ++ reply ∷ [])
  front Open reply answered one up =
      let opened = answered_open page before piece p from taken held after [] mid (mid ++ reply ∷ []) is stays ask fed answered in (
        heads_after page.hosts held.rest p taken ask after fed stays.heads,
        record {
          front = take (from + taken) piece;
          more = drop (from + taken) piece;
          held = record { rest = after.rest; left = held.left - 1 };
          cut = sym (take-append-drop (from + taken) piece);
          steps = (opened.0, opened.1);
        },
        makes_open reply one up,
      )
  front Closed reply answered one up = (
    heads_after page.hosts held.rest p taken ask after fed stays.heads,
    record {
      front = piece;
      more = [];
      held = held;
      cut = sym (append-nil piece);
      steps = answered_closed page before piece p from taken held after [] mid (mid ++ reply ∷ []) is stays ask held fed answered;
    },
    makes_closed reply one up,
  )
  front Short reply answered one up = (
    stays.heads,
    record {
      front = piece;
      more = [];
      held = held;
      cut = sym (append-nil piece);
      steps = answered_short page before piece p from taken held after [] mid (mid ++ reply ∷ []) is stays ask held fed answered;
    },
    makes_short reply one up,
  )

  only : (before : List (List ℕ)) (next reply : List ℕ) → before ++ next ∷ [] ≡ reply ∷ [] → (before ≡ []) × (next ≡ reply)
  only [] next reply e = (refl, ap (λ (x : List (List ℕ)). get_or x 0 []) e)
  only (b ∷ []) next reply e = absurd (let never : ⊥ = omega (arith, ap (λ (x : List (List ℕ)). length x) e) in never)
  only (b ∷ c ∷ before) next reply e = absurd (let never : ⊥ = omega (arith, ap (λ (x : List (List ℕ)). length x) e) in never)

  serve_failed : (failed : Failed) (then : Line) → IsAnswered page Names ask after.target (held.left == 1) made (Err failed) now new g h
      → IsPieceServed page Names before piece so_many (Err failed) then first new f h
  serve_failed failed then (would, sent, next, some, r, account_is, rose) =
      let one = only sent next r.reply r.one in
      let same : new ≡ send_to (gain first mid) (take some r.reply) =
      account_is ∙ ap (λ x. send_to (gain now x) (take some next)) one.0 ∙ ap (λ x. send_to now (take some x)) one.1 ∙ ap (λ a. send_to a (take some r.reply)) account in (
        would,
        mid,
        r.reply,
        some,
        front would r.reply (shifted page ask after.target (held.left == 1) would mid r.reply r.answers) r.count r.looks,
        same,
        subst (λ x. Rose x h) fine rose,
      )

  -- a reply that closed it or failed
  pub serve_over : (end : StepEnd) (then : Line) → (end ≢ Ok Open) → IsAnswered page Names ask after.target (held.left == 1) made end now new g h
      → IsPieceServed page Names before piece so_many end then first new f h
  serve_over (Ok Open) then over answered = absurd (over refl)
  serve_over (Ok Closed) then over answered = serve_closed then answered
  serve_over (Ok Short) then over answered = serve_short then answered
  serve_over (Err failed) then over answered = serve_failed failed then answered

-- the end of the input, after line ends alone
pub finish_clean : (rest : List ℕ) (asked : Option ParsedRequest) (a : Option Account) (f : ℕ) → asked ≡ None → EndsWith rest asked
    → IsFinished rest (record { replies = 0; terms = [] }) (Ok Closed) a a f f
finish_clean rest asked a f none ends =
    let clean : EndsWith rest None = subst (EndsWith rest) none ends in
    ([], record { steps = inl (clean, refl); count = refl; none = refl }, refl, refl)

-- nothing is looked up for a bad request
none_looked : (Names : List ℕ → Term → Type 0) (would : Standing) (target : List ℕ) (terms : List Term) → LooksFor Names would bad_request.kind target terms → terms ≡ []
none_looked Names Open target terms none = none
none_looked Names Closed target terms none = none
none_looked Names Short target terms (inl none) = none
none_looked Names Short target terms (inr none) = none

end_step : (page : Showing) (Names : List ℕ → Term → Type 0) (rest target : List ℕ) (ask : ParsedRequest) (made : Made) (would : Standing) (replies : List (List ℕ)) → ¬ (AreLineEnds rest) → ask ≡ bad_request
    → Reply page Names ask target true made would replies → EndSteps rest made would replies
end_step page Names rest target ask made would replies within is r =
    subst (EndSteps rest made would) (sym r.one) record {
      steps = step would (subst (λ a. Answered page a target true would [] (r.reply ∷ [])) is r.answers);
      count = r.count;
      none = none_looked Names would target made.terms (subst (λ (a : ParsedRequest). LooksFor Names would a.kind target made.terms) is r.looks);
    }
  where
    step : (would : Standing) → Answered page bad_request target true would [] (r.reply ∷ []) → AtEnd rest would (r.reply ∷ [])
    step Open answered = absurd (let never : true ≡ false = answered.2 in cc)
    step Closed answered = inr (within, answered.3)
    step Short answered = (within, answered)

-- the end of the input, after more than line ends
pub finish_asked : (page : Showing) (Names : List ℕ → Term → Type 0) (rest target : List ℕ) (asked : Option ParsedRequest) (ask : ParsedRequest) (made : Made) (end : StepEnd) (a b : Option Account) (f g : ℕ)
    → asked ≡ Some ask → EndsWith rest asked → IsAnswered page Names ask target true made end a b f g → IsFinished rest made end a b f g
finish_asked page Names rest target asked ask made end a b f g some ends answered =
    let ended : EndsWith rest (Some ask) = subst (EndsWith rest) some ends in
    by_end end ended.1 ended.0 answered
  where
    by_end : (end : StepEnd) → ¬ (AreLineEnds rest) → ask ≡ bad_request → IsAnswered page Names ask target true made end a b f g
        → IsFinished rest made end a b f g
    by_end (Ok standing) within is (replies, r, e, k) = (replies, end_step page Names rest target ask made standing replies within is r, e, k)
    by_end (Err failed) within is (would, before, next, some, r, e, k) =
        (would, before, next, some, end_step page Names rest target ask made would (before ++ next ∷ []) within is r, e, k)

-- an answer that left it open had no fault
pub faults_open : (page : Showing) (Names : List ℕ → Term → Type 0) (ask : ParsedRequest) (target : List ℕ) (last : Bool) (made : Made) (old new : Option Account) (f h : ℕ)
    → IsAnswered page Names ask target last made (Ok Open) old new f h → h ≡ f
faults_open page Names ask target last made old new f h (replies, r, account_is, fine) = fine

-- a reply that was made is sent
pub sent_answer : (page : Showing) (Names : List ℕ → Term → Type 0) (ask : ParsedRequest) (target : List ℕ) (last close : Bool) (reply : List ℕ) (outcome : Outcome) (terms : List Term) (end : StepEnd)
    (old new : Option Account) (f g : ℕ) → close ≡ (last || ask.close) → IsLookedUp page ask.kind target outcome → reply ≡ reply_bytes ask outcome close
    → LooksUp Names ask.kind target terms
    → IsSent close reply end old new f g → IsAnswered page Names ask target last (record { replies = 1; terms = terms }) end old new f g
sent_answer page Names ask target last close reply outcome terms end old new f g close_is up is looks = by_end end
  where
    bytes : reply ≡ reply_bytes ask outcome (last || ask.close)
    bytes = subst (λ b. reply ≡ reply_bytes ask outcome b) close_is is

    one : [] ++ reply ∷ [] ≡ [] ++ reply_bytes ask outcome (last || ask.close) ∷ []
    one = ap (λ r. r ∷ []) bytes

    answered_by : (would : Bool) → (last || ask.close) ≡ would → (standing : Standing) × Reply page Names ask target last (record { replies = 1; terms = terms }) standing (reply ∷ [])
    answered_by true e = (Closed, record { reply = reply; one = refl; answers = (outcome, up, e, one); count = refl; looks = looks })
    answered_by false e = (Open, record { reply = reply; one = refl; answers = (outcome, up, e, one); count = refl; looks = looks })

    by_end : (end : StepEnd) → IsSent close reply end old new f g → IsAnswered page Names ask target last (record { replies = 1; terms = terms }) end old new f g
    by_end (Ok Open) (e, account, faults) =
        (reply ∷ [], record { reply = reply; one = refl; answers = (outcome, up, sym close_is ∙ e, one); count = refl; looks = looks }, account, faults)
    by_end (Ok Closed) (e, account, faults) =
        (reply ∷ [], record { reply = reply; one = refl; answers = (outcome, up, sym close_is ∙ e, one); count = refl; looks = looks }, account, faults)
    by_end (Ok Short) never = absurd never
    by_end (Err failed) (some, account, rose) =
        let would = answered_by (last || ask.close) refl in
        (would.0, [], reply, some, would.1, account, rose)

-- a 503 is sent in its place
pub short_answer : (page : Showing) (Names : List ℕ → Term → Type 0) (ask : ParsedRequest) (target : List ℕ) (last : Bool) (terms : List Term) (end : StepEnd) (old new : Option Account) (f g : ℕ)
    → (terms ≡ []) ⊎ LooksUp Names ask.kind target terms → IsUnopened end old new f g
    → IsAnswered page Names ask target last (record { replies = 0; terms = terms }) end old new f g
short_answer page Names ask target last terms end old new f g looks = by_end end
  where
    short : (would : Standing) (replies : List (List ℕ)) → (would ≡ Short) × (replies ≡ no_memory_bytes ∷ []) → Reply page Names ask target last (record { replies = 0; terms = terms }) would replies
    short would replies (s, e) =
        subst (λ w. Reply page Names ask target last (record { replies = 0; terms = terms }) w replies) (sym s)
        (record { reply = no_memory_bytes; one = e; answers = refl; count = refl; looks = looks })

    by_end : (end : StepEnd) → IsUnopened end old new f g → IsAnswered page Names ask target last (record { replies = 0; terms = terms }) end old new f g
    by_end (Ok standing) (replies, e, account, faults) = (replies, short standing replies e, account, faults)
    by_end (Err failed) (would, before, next, some, e, account, rose) = (would, before, next, some, short would (before ++ next ∷ []) e, account, rose)
