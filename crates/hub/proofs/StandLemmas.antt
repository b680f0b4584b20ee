-- One event more, for one connection.
use Rattle.std.proofs.Common.{◌≡◌, ◌≢◌, ℕ, ◌+◌, ◌-◌, ◌<◌, ◌≤◌, Bool, true, false, List, [], ◌∷◌, ◌++◌, length, refl, sym, ap, ◌∙◌, subst, arith, append_assoc, take, ◌⊎◌, inl, inr, Option, Ok, Err, length-append, lit≤}
use Rattle.std.proofs.lemmas.List.{append-nil, map-append, length-map}
use Rattle.edge_io.specs.Counts.{Rose}
use Rattle.httparse.specs.Grammar.{RequestHead}
use Rattle.sd_value.specs.declared.Term.{Term}
use Rattle.http_spec.specs.declared.Standing.{Standing}
use Rattle.http_spec.specs.declared.Standing.TheVariants.{Open, Closed, Short}
use Rattle.http_spec.specs.Heads.{max_head, HasNoHead}
use Rattle.http_spec.specs.Replies.{no_memory_bytes}
use Rattle.http_spec.specs.Sessions.{Showing, refusal, IsRefused, IsDue, Ends, AnswersStream}
use Rattle.http_spec.specs.Streams.{Timed, Request, timed, bytes_in}
use Rattle.http_spec.proofs.StreamLemmas.{cut_later, bytes-append}
use Rattle.http_spec.proofs.LaterLemmas.{due_later, closed_ends_later}
use Rattle.wire.specs.Accounts.{Account, gain, send_to}
use Rattle.serving_spec.specs.Counted.{LookUp, look_up, look_ups, Counts, counts_with, LooksUpFor, CountedAnswer, HasCounts}
use Rattle.serving_spec.specs.Delivered.{Seen, closing, AllSent, CutOff}
use Rattle.hub.specs.Line.{Line}
use Rattle.serving_spec.specs.Made.{Made, replies_in, MayLookUp}
use Rattle.hub.specs.Makes.{LooksUpAll, Makes}
use Rattle.serving_spec.specs.Sent.{FrontOf}
use Rattle.hub.specs.Moments.{SettledAt, IsOpenAt, IsOverAt}
use Rattle.hub.specs.Pieces.{AtEnd, Steps}
use Rattle.hub.specs.Turns.{At, seen_of, StepEnd, account_after, IsDelivered, FrontSteps, EndSteps}
use Rattle.hub.proofs.DateLemmas.{timed-append, requests_of, requests-length, session_more}
use Rattle.hub.proofs.ServeLemmas.{gain_append}

ends_later : (ended closed : Bool) (standing : Standing) (rest more : List ℕ) (last : List (List ℕ)) → (standing ≢ Open) → Ends false standing rest closed last → Ends ended standing (rest ++ more) closed last
ends_later ended closed Open rest more last over ends = absurd (over refl)
ends_later ended closed Closed rest more last over ends = closed_ends_later ended closed rest more last ends
ends_later ended closed Short rest more last over (goes, due, one) = (goes, due_later ended rest more due, one)

-- bytes that come later change nothing of a session that is shut, nor does the end of the input
answer_ends : {D : Type 0} (page : D → Showing) (Names : List ℕ → Term → Type 0) (limit : ℕ) (counted : Counts D) (stream later : List (Timed D)) (ended : Bool) (standing : Standing) (replies : List (List ℕ)) → (standing ≢ Open)
    → HasCounts page Names limit counted stream false standing replies → HasCounts page Names limit counted (stream ++ later) ended standing replies
answer_ends page Names limit counted stream later ended standing replies over (inr short) = inr short
answer_ends page Names limit counted stream later ended standing replies over (inl c) =
    let a = c.answer in
    inl record {
      answer = record {
        requests = a.requests;
        rest = a.rest ++ later;
        answered = a.answered;
        closed = a.closed;
        last = a.last;
        session = record { cut = cut_later stream later a.rest a.requests a.session.cut; answered = a.session.answered };
        ends = subst (λ s. Ends ended standing s a.closed a.last) (sym (bytes-append a.rest later)) (ends_later ended a.closed standing (bytes_in a.rest) (bytes_in later) a.last over a.ends);
        whole = a.whole;
      };
      looked = c.looked;
      extra = c.extra;
      count = c.count;
      looks = c.looks;
      may = c.may;
      whole = c.whole;
    }

answer_later : {D : Type 0} (page : D → Showing) (Names : List ℕ → Term → Type 0) (limit : ℕ) (counted : Counts D) (stream later : List (Timed D)) (standing : Standing) (replies : List (List ℕ)) → (standing ≢ Open)
    → HasCounts page Names limit counted stream false standing replies → HasCounts page Names limit counted (stream ++ later) false standing replies
answer_later page Names limit counted stream later standing replies over a = answer_ends page Names limit counted stream later false standing replies over a

answer_over : {D : Type 0} (page : D → Showing) (Names : List ℕ → Term → Type 0) (limit : ℕ) (counted : Counts D) (stream : List (Timed D)) (standing : Standing) (replies : List (List ℕ)) → (standing ≢ Open)
    → HasCounts page Names limit counted stream false standing replies → HasCounts page Names limit counted stream true standing replies
answer_over page Names limit counted stream standing replies over a =
    subst (λ s. HasCounts page Names limit counted s true standing replies) (append-nil stream) (answer_ends page Names limit counted stream [] true standing replies over a)

front_later : {D : Type 0} (page : D → Showing) (Names : List ℕ → Term → Type 0) (limit : ℕ) (counted : Counts D) (stream later : List (Timed D)) (standing : Standing) (replies : List (List ℕ))
    → FrontOf (HasCounts page Names limit counted) stream false standing replies → FrontOf (HasCounts page Names limit counted) (stream ++ later) false standing replies
front_later page Names limit counted stream later standing replies a = record {
  front = a.front;
  more = a.more ++ later;
  at_end = a.at_end;
  cut = ap (λ s. s ++ later) a.cut ∙ append_assoc a.front a.more later;
  ends_so = λ e. let both = a.ends_so e in absurd (let never : false ≡ true = both.0 in cc);
  answer = a.answer;
}

front_over : {D : Type 0} (page : D → Showing) (Names : List ℕ → Term → Type 0) (limit : ℕ) (counted : Counts D) (stream : List (Timed D)) (standing : Standing) (replies : List (List ℕ))
    → FrontOf (HasCounts page Names limit counted) stream false standing replies → FrontOf (HasCounts page Names limit counted) stream true standing replies
front_over page Names limit counted stream standing replies a = record {
  front = a.front;
  more = a.more;
  at_end = a.at_end;
  cut = a.cut;
  ends_so = λ e. (refl, (a.ends_so e).1);
  answer = a.answer;
}

-- the same sends, for other answers
module _ (P Q : Standing → List (List ℕ) → Type 0) (first now : Seen) where
  abbrev pub all_sent_map : (all : AllSent P first now) → (P all.standing all.replies → Q all.standing all.replies) → AllSent Q first now
  all_sent_map all to = record { standing = all.standing; replies = all.replies; answer = to all.answer; account = all.account; faults = all.faults }

  pub cut_off_map : ((standing : Standing) (replies : List (List ℕ)) → P standing replies → Q standing replies) → CutOff P first now → CutOff Q first now
  cut_off_map to c = record {
    standing = c.standing;
    sent = c.sent;
    next = c.next;
    some = c.some;
    answer = to c.standing (c.sent ++ c.next ∷ []) c.answer;
    account = c.account;
    faults = c.faults;
  }

-- Over a connection to which nothing more is sent.
module _ {D : Type 0} (page : D → Showing) (Names : List ℕ → Term → Type 0) (limit : ℕ) (counted : Counts D) (stream : List (Timed D)) (first now : At) where
  abbrev Whole : List (Timed D) → Bool → Standing → List (List ℕ) → Type 0
  Whole = HasCounts page Names limit counted

  abbrev Front : List (Timed D) → Bool → Standing → List (List ℕ) → Type 0
  Front = FrontOf (HasCounts page Names limit counted)

  pub over_later : (later : List (Timed D)) → IsOverAt page Names limit counted stream first now → IsOverAt page Names limit counted (stream ++ later) first now
  over_later later (inl (all, over)) =
      inl (all_sent_map (Whole stream false) (Whole (stream ++ later) false) (seen_of first) (seen_of now) all (answer_later page Names limit counted stream later all.standing all.replies over), over)
  over_later later (inr cut) =
      inr (cut_off_map (Front stream false) (Front (stream ++ later) false) (seen_of first) (seen_of now) (λ standing replies is. front_later page Names limit counted stream later standing replies is) cut)

  pub over_ended : IsOverAt page Names limit counted stream first now → SettledAt page Names limit counted stream true first now
  over_ended (inl (all, over)) =
      inl (all_sent_map (Whole stream false) (Whole stream true) (seen_of first) (seen_of now) all (answer_over page Names limit counted stream all.standing all.replies over))
  over_ended (inr cut) =
      inr (cut_off_map (Front stream false) (Front stream true) (seen_of first) (seen_of now) (λ standing replies is. front_over page Names limit counted stream standing replies is) cut)

  pub over_settled : IsOverAt page Names limit counted stream first now → SettledAt page Names limit counted stream false first now
  over_settled (inl (all, over)) = inl all
  over_settled (inr cut) = inr cut

look_ups_append : {D : Type 0} (d : D) (a b : List Term) → look_ups d (a ++ b) ≡ look_ups d a ++ look_ups d b
look_ups_append d a b = map-append (look_up d) a b

-- look-ups for requests, and for others
looks_append : {D : Type 0} (page : D → Showing) (Names : List ℕ → Term → Type 0) (requests others : List (Request D)) (a b : List (LookUp D)) → LooksUpFor page Names requests a → LooksUpFor page Names others b
    → LooksUpFor page Names (requests ++ others) (a ++ b)
looks_append page Names [] others a b none second = subst (λ l. LooksUpFor page Names others (l ++ b)) (sym none) second
looks_append page Names (r ∷ requests) others a b (terms, more, one, rest, is) second =
    (terms, more ++ b, one, looks_append page Names requests others more b rest second, ap (λ l. l ++ b) is ∙ append_assoc (look_ups r.current terms) more b)

-- look-ups for heads that are whole while this is current
looks_dated : {D : Type 0} (page : D → Showing) (Names : List ℕ → Term → Type 0) (d : D) (heads : List RequestHead) (looked : List Term) → LooksUpAll (page d).hosts Names heads looked
    → LooksUpFor page Names (requests_of d heads) (look_ups d looked)
looks_dated page Names d [] looked none = ap (look_ups d) none
looks_dated page Names d (h ∷ heads) looked (first, others, one, rest, is) =
    (first, look_ups d others, one, looks_dated page Names d heads others rest, ap (look_ups d) is ∙ look_ups_append d first others)

may_look : {D : Type 0} (d : D) (would : Standing) (extra : List Term) → MayLookUp would extra → MayLookUp would (look_ups d extra)
may_look d Open extra none = ap (look_ups d) none
may_look d Closed extra none = ap (look_ups d) none
may_look d Short extra few = subst (λ n. n ≤ 1) (sym (length-map extra (look_up d))) few

may_none : (A : Type 0) (would : Standing) → MayLookUp {A = A} would []
may_none A Open = refl
may_none A Closed = refl
may_none A Short = lit≤ tt

-- where it is out of memory, a 503 is sent
some_short : (page : Showing) (line : Line) (piece : List ℕ) (heads : List RequestHead) (would : Standing) (held : Line) (replies : List (List ℕ)) → Steps page line piece heads would held [] replies
    → would ≡ Short → 0 < length replies
some_short page line piece heads Open held replies step e = absurd (let never : Open ≡ Short = e in cc)
some_short page line piece heads Closed held replies step e = absurd (let never : Closed ≡ Short = e in cc)
some_short page line piece heads Short held replies (sent, is, (tail, answered, short)) e =
    let count : length replies ≡ length answered + 1 = ap (λ (r : List (List ℕ)). length r) (is ∙ short.then_short) ∙ length-append answered (no_memory_bytes ∷ []) in
    omega (arith, count)

some_at_end : (rest : List ℕ) (would : Standing) (replies : List (List ℕ)) → AtEnd rest would replies → would ≡ Short → 0 < length replies
some_at_end rest Open replies never e = absurd never
some_at_end rest Closed replies end e = absurd (let never : Closed ≡ Short = e in cc)
some_at_end rest Short replies (within, is) e =
    let count : length replies ≡ 1 = ap (λ (r : List (List ℕ)). length r) is in
    omega (arith, count)

-- What an open connection's step adds to its session.
module _ {D : Type 0} (page : D → Showing) (Names : List ℕ → Term → Type 0) (d : D) (limit : ℕ) (counted : Counts D) (stream : List (Timed D)) (line : Line) (first now : At) (open_at : IsOpenAt page Names limit counted stream line first now) where
  -- the replies that are counted, with those of a step
  count_more : (would : Standing) (replies : List (List ℕ)) (one : ℕ) → one ≡ replies_in would replies → (would ≡ Short → 0 < length replies)
      → counted.replies + one ≡ replies_in would (open_at.replies ++ replies)
  count_more Open replies one e some = let so_far = open_at.count in let is : one ≡ length replies = e in omega (arith, so_far, is, length-append open_at.replies replies)
  count_more Closed replies one e some = let so_far = open_at.count in let is : one ≡ length replies = e in omega (arith, so_far, is, length-append open_at.replies replies)
  count_more Short replies one e some = let so_far = open_at.count in let is : one ≡ length replies - 1 = e in let has : 0 < length replies = some refl in omega (arith, so_far, is, has, length-append open_at.replies replies)

  -- the look-ups, with those of a step
  looks_more : (heads : List RequestHead) (looked : List Term) → LooksUpAll (page d).hosts Names heads looked → LooksUpFor page Names (open_at.requests ++ requests_of d heads) (counted.looked ++ look_ups d looked)
  looks_more heads looked up = looks_append page Names open_at.requests (requests_of d heads) counted.looked (look_ups d looked) open_at.looks (looks_dated page Names d heads looked up)

  -- the counts of an answer to the bytes so far and these heads
  counts_more : (heads : List RequestHead) (would : Standing) (replies : List (List ℕ)) (one : Made) (bytes : List (Timed D)) (ended : Bool) (a : AnswersStream page limit bytes ended would (open_at.replies ++ replies))
      → a.requests ≡ open_at.requests ++ requests_of d heads → Makes (page d).hosts Names would heads replies one → (would ≡ Short → 0 < length replies)
      → CountedAnswer page Names limit (counts_with counted d one) bytes ended would (open_at.replies ++ replies)
  counts_more heads would replies one bytes ended a same makes some = record {
    answer = a;
    looked = counted.looked ++ look_ups d makes.looked;
    extra = look_ups d makes.extra;
    count = count_more would replies one.replies makes.count some;
    looks = subst (λ rs. LooksUpFor page Names rs (counted.looked ++ look_ups d makes.looked)) (sym same) (looks_more heads makes.looked makes.look_ups);
    may = may_look d would makes.extra makes.may;
    whole = ap (λ ts. counted.looked ++ look_ups d ts) makes.terms ∙ ap (λ l. counted.looked ++ l) (look_ups_append d makes.looked makes.extra)
        ∙ sym (append_assoc counted.looked (look_ups d makes.looked) (look_ups d makes.extra));
  }

  -- the bytes of its rest, and of the piece
  rest_on : (piece tail : List ℕ) → line.rest ++ piece ≡ tail → bytes_in open_at.rest ++ piece ≡ tail
  rest_on piece tail e = ap (λ s. s ++ piece) open_at.rest_is ∙ e

  pub open_more : (piece : List ℕ) (heads : List RequestHead) (held : Line) (replies : List (List ℕ)) (one : Made) (after : At) → Steps (page d) line piece heads Open held [] replies
      → Makes (page d).hosts Names Open heads replies one → after.account ≡ gain now.account replies → after.faults ≡ now.faults
      → IsOpenAt page Names limit (counts_with counted d one) (stream ++ timed d piece) held first after
  open_more piece heads held replies one_made after (step, same) makes account faults =
      let one = open_at.left in
      let two = step.left in
      let more = session_more page d limit line.left stream open_at.rest open_at.requests open_at.replies step.replies piece held.rest step.heads false
      open_at.session open_at.left open_at.none step.stays.cut.each (rest_on piece _ step.stays.cut.whole) step.stays.answered in
      record {
        requests = open_at.requests ++ requests_of d step.heads;
        rest = more.0;
        replies = open_at.replies ++ step.replies;
        session = more.2;
        none = subst HasNoHead (sym more.1) step.stays.cut.last;
        room = subst (λ (b : List ℕ). length b < max_head) (sym more.1) step.stays.room;
        rest_is = more.1;
        left = omega (arith, length-append open_at.requests (requests_of d step.heads), requests-length d step.heads, one, two);
        some = step.some;
        account = account ∙ ap (gain now.account) step.sent ∙ ap (λ a. gain a step.replies) open_at.account ∙ sym (gain_append first.account open_at.replies step.replies);
        faults = faults ∙ open_at.faults;
        count = count_more Open replies one_made.replies makes.count (λ e. absurd (let never : Open ≡ Short = e in cc))
            ∙ ap (λ (r : List (List ℕ)). length (open_at.replies ++ r)) step.sent;
        looks = subst (λ hs. LooksUpFor page Names (open_at.requests ++ requests_of d hs) (counted.looked ++ look_ups d one_made.terms)) (sym same)
            (subst (λ ts. LooksUpFor page Names (open_at.requests ++ requests_of d heads) (counted.looked ++ look_ups d ts)) (sym (makes.terms ∙ ap (λ e. makes.looked ++ e) makes.may ∙ append-nil makes.looked))
            (looks_more heads makes.looked makes.look_ups));
      }

  -- the session of the bytes so far
  pub so_far : HasCounts page Names limit counted stream false Open open_at.replies
  so_far =
      inl record {
        answer = record {
          requests = open_at.requests;
          rest = open_at.rest;
          answered = open_at.replies;
          closed = false;
          last = [];
          session = open_at.session;
          ends = (refl, refl, (open_at.none, open_at.room), refl);
          whole = nil_on open_at.replies;
        };
        looked = counted.looked;
        extra = [];
        count = open_at.count;
        looks = open_at.looks;
        may = refl;
        whole = sym (append-nil counted.looked);
      }
    where
      nil_on : (r : List (List ℕ)) → r ≡ r ++ []
      nil_on r = sym (append-nil r)

  replies_more : (piece : List ℕ) (heads : List RequestHead) (would : Standing) (held : Line) (replies : List (List ℕ)) → Steps (page d) line piece heads would held [] replies
      → (a : AnswersStream page limit (stream ++ timed d piece) false would (open_at.replies ++ replies)) × (a.requests ≡ open_at.requests ++ requests_of d heads)
  replies_more piece heads Open held replies (step, same) =
      let more = session_more page d limit line.left stream open_at.rest open_at.requests open_at.replies step.replies piece held.rest step.heads false
      open_at.session open_at.left open_at.none step.stays.cut.each (rest_on piece _ step.stays.cut.whole) step.stays.answered in (
        record {
          requests = open_at.requests ++ requests_of d step.heads;
          rest = more.0;
          answered = open_at.replies ++ step.replies;
          closed = false;
          last = [];
          session = more.2;
          ends = (
            refl,
            refl,
            (
              subst HasNoHead (sym more.1) step.stays.cut.last,
              subst (λ (b : List ℕ). length b < max_head) (sym more.1) step.stays.room,
            ),
            refl,
          );
          whole = ap (λ r. open_at.replies ++ r) step.sent ∙ sym (append-nil (open_at.replies ++ step.replies));
        },
        ap (λ hs. open_at.requests ++ requests_of d hs) same,
      )
  replies_more piece heads Closed held replies (sent, is, inl (tail, closed)) =
      let more = session_more page d limit line.left stream open_at.rest open_at.requests open_at.replies sent piece tail heads true
      open_at.session open_at.left open_at.none closed.each (rest_on piece _ closed.whole) closed.answered in (
        record {
          requests = open_at.requests ++ requests_of d heads;
          rest = more.0;
          answered = open_at.replies ++ sent;
          closed = true;
          last = [];
          session = more.2;
          ends = inl (refl, refl);
          whole = ap (λ r. open_at.replies ++ r) is ∙ sym (append-nil (open_at.replies ++ sent));
        },
        refl,
      )
  replies_more piece heads Closed held replies (sent, is, inr (rest, answered, refused)) =
      let more = session_more page d limit line.left stream open_at.rest open_at.requests open_at.replies answered piece rest heads false
      open_at.session open_at.left open_at.none refused.each (rest_on piece _ refused.whole) refused.answers in (
        record {
          requests = open_at.requests ++ requests_of d heads;
          rest = more.0;
          answered = open_at.replies ++ answered;
          closed = false;
          last = refusal ∷ [];
          session = more.2;
          ends = inr (inl (refl, subst (IsRefused false) (sym more.1) refused.why, refl));
          whole = ap (λ r. open_at.replies ++ r) (is ∙ refused.then_refused) ∙ sym (append_assoc open_at.replies answered (refusal ∷ []));
        },
        refl,
      )
  replies_more piece heads Short held replies (sent, is, (tail, answered, short)) =
      let more = session_more page d limit line.left stream open_at.rest open_at.requests open_at.replies answered piece tail heads false
      open_at.session open_at.left open_at.none short.each (rest_on piece _ short.whole) short.answers in (
        record {
          requests = open_at.requests ++ requests_of d heads;
          rest = more.0;
          answered = open_at.replies ++ answered;
          closed = false;
          last = no_memory_bytes ∷ [];
          session = more.2;
          ends = (refl, subst (IsDue false) (sym more.1) short.due, refl);
          whole = ap (λ r. open_at.replies ++ r) (is ∙ short.then_short) ∙ sym (append_assoc open_at.replies answered (no_memory_bytes ∷ []));
        },
        refl,
      )

  pub answer_more : (piece : List ℕ) (heads : List RequestHead) (would : Standing) (held : Line) (replies : List (List ℕ)) (one : Made) → Steps (page d) line piece heads would held [] replies
      → Makes (page d).hosts Names would heads replies one → HasCounts page Names limit (counts_with counted d one) (stream ++ timed d piece) false would (open_at.replies ++ replies)
  answer_more piece heads would held replies one step makes =
      let more = replies_more piece heads would held replies step in
      inl (counts_more heads would replies one (stream ++ timed d piece) false more.0 more.1 makes (some_short (page d) line piece heads would held replies step))

  pub front_more : (piece : List ℕ) (heads : List RequestHead) (would : Standing) (replies : List (List ℕ)) (one : Made) → FrontSteps (page d) line piece heads would replies
      → Makes (page d).hosts Names would heads replies one → FrontOf (HasCounts page Names limit (counts_with counted d one)) (stream ++ timed d piece) false would (open_at.replies ++ replies)
  front_more piece heads would replies one step makes = record {
    front = stream ++ timed d step.front;
    more = timed d step.more;
    at_end = false;
    cut = ap (λ p. stream ++ timed d p) step.cut ∙ ap (λ s. stream ++ s) (timed-append d step.front step.more)
        ∙ sym (append_assoc stream (timed d step.front) (timed d step.more));
    ends_so = λ e. absurd (let never : false ≡ true = e in cc);
    answer = answer_more step.front heads would step.held replies one step.steps makes;
  }

  -- the end of its input
  replies_end : (would : Standing) (replies : List (List ℕ)) → AtEnd (bytes_in open_at.rest) would replies
      → (a : AnswersStream page limit stream true would (open_at.replies ++ replies)) × (a.requests ≡ open_at.requests)
  replies_end would replies = by_would would
    where
      answer : (would : Standing) → Ends true would (bytes_in open_at.rest) false replies → (a : AnswersStream page limit stream true would (open_at.replies ++ replies)) × (a.requests ≡ open_at.requests)
      answer would ends = (
        record {
          requests = open_at.requests;
          rest = open_at.rest;
          answered = open_at.replies;
          closed = false;
          last = replies;
          session = open_at.session;
          ends = ends;
          whole = refl;
        },
        refl,
      )

      by_would : (would : Standing) → AtEnd (bytes_in open_at.rest) would replies → (a : AnswersStream page limit stream true would (open_at.replies ++ replies)) × (a.requests ≡ open_at.requests)
      by_would Open never = absurd never
      by_would Closed (inl (clean, is)) = answer Closed (inr (inr (refl, refl, (open_at.none, open_at.room), clean, is)))
      by_would Closed (inr (within, is)) = answer Closed (inr (inl (refl, (open_at.none, inr (inr (refl, within))), is)))
      by_would Short (within, is) = answer Short (refl, inr (open_at.none, inr (inr (refl, within))), is)

  pub end_more : (made : Made) (would : Standing) (replies : List (List ℕ)) → EndSteps line.rest made would replies → HasCounts page Names limit (counts_with counted d made) stream true would (open_at.replies ++ replies)
  end_more made would replies step =
      let at_end : AtEnd (bytes_in open_at.rest) would replies = subst (λ r. AtEnd r would replies) (sym open_at.rest_is) step.steps in
      let a = replies_end would replies at_end in
      inl record {
        answer = a.0;
        looked = counted.looked;
        extra = [];
        count = count_more would replies made.replies step.count (some_at_end (bytes_in open_at.rest) would replies at_end);
        looks = subst (λ rs. LooksUpFor page Names rs counted.looked) (sym a.1) open_at.looks;
        may = may_none (LookUp D) would;
        whole = ap (λ ts. counted.looked ++ look_ups d ts) step.none;
      }

  pub front_end : (made : Made) (would : Standing) (replies : List (List ℕ)) → EndSteps line.rest made would replies
      → FrontOf (HasCounts page Names limit (counts_with counted d made)) stream true would (open_at.replies ++ replies)
  front_end made would replies step = record {
    front = stream;
    more = [];
    at_end = true;
    cut = sym (append-nil stream);
    ends_so = λ e. (refl, refl);
    answer = end_more made would replies step;
  }

  -- what a step sent, after what was sent before
  pub account_on : (replies : List (List ℕ)) → gain now.account replies ≡ gain first.account (open_at.replies ++ replies)
  account_on replies = ap (λ a. gain a replies) open_at.account ∙ sym (gain_append first.account open_at.replies replies)

  abbrev pub all_on : (Is : Standing → List (List ℕ) → Type 0) (standing : Standing) (replies : List (List ℕ)) (account : Option Account) (after : At) → Is standing (open_at.replies ++ replies)
      → account ≡ gain now.account replies → after.faults ≡ now.faults → after.account ≡ closing standing account → AllSent Is (seen_of first) (seen_of after)
  all_on Is standing replies account after is sent faults closed = record {
    standing = standing;
    replies = open_at.replies ++ replies;
    answer = is;
    account = closed ∙ ap (closing standing) (sent ∙ account_on replies);
    faults = faults ∙ open_at.faults;
  }

  pub cut_on : (Is : Standing → List (List ℕ) → Type 0) (would : Standing) (before : List (List ℕ)) (next : List ℕ) (some : ℕ) (after : At) → Is would (open_at.replies ++ (before ++ next ∷ []))
      → after.account ≡ send_to (gain now.account before) (take some next) → Rose now.faults after.faults → CutOff Is (seen_of first) (seen_of after)
  cut_on Is would before next some after is account rose = record {
    standing = would;
    sent = open_at.replies ++ before;
    next = next;
    some = some;
    answer = subst (Is would) (sym (append_assoc open_at.replies before (next ∷ []))) is;
    account = account ∙ ap (λ a. send_to a (take some next)) (account_on before);
    faults = subst (λ x. Rose x after.faults) open_at.faults rose;
  }

  pub settled_on : (Whole Front Is Fronts : Standing → List (List ℕ) → Type 0) (end : StepEnd) (account : Option Account) (after : At)
      → ((s : Standing) (replies : List (List ℕ)) → Whole s replies → Is s (open_at.replies ++ replies))
      → ((s : Standing) (replies : List (List ℕ)) → Front s replies → Fronts s (open_at.replies ++ replies))
      → IsDelivered Whole Front end now.account account now.faults after.faults → after.account ≡ account_after end account
      → AllSent Is (seen_of first) (seen_of after) ⊎ CutOff Fronts (seen_of first) (seen_of after)
  settled_on Whole Front Is Fronts (Ok standing) account after w h (replies, is, sent, faults) closed =
      inl (all_on Is standing replies account after (w standing replies is) sent faults closed)
  settled_on Whole Front Is Fronts (Err failed) account after w h (would, before, next, some, is, sent, rose) same =
      inr (cut_on Fronts would before next some after (h would (before ++ next ∷ []) is) (same ∙ sent) rose)
