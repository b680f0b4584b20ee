-- One more ask of a connection, as a step of its loop over a piece.
use Rattle.std.proofs.Common.{◌≡◌, ℕ, ◌+◌, ◌-◌, ◌<◌, ◌≤◌, ◌⊎◌, Bool, true, false, ◌||◌, ◌==◌, List, [], ◌∷◌, ◌++◌, length, refl, sym, ap, ◌∙◌, subst, arith, append_assoc, inl, inr, take, drop, Option, Some, None, lit<, length-append}
use Rattle.std.proofs.Math.Seq.{take-add}
use Rattle.std.proofs.lemmas.Bool.Decides.{nat_tests}
use Rattle.std.proofs.lemmas.List.{append-nil, take-append-drop}
use Rattle.std.proofs.lemmas.List.Elements.{All-nil}
use Rattle.httparse.specs.Grammar.{RequestHead}
use Rattle.http_spec.specs.declared.ParsedRequest.{ParsedRequest}
use Rattle.http_spec.specs.declared.Standing.{Standing}
use Rattle.http_spec.specs.declared.Standing.TheVariants.{Open, Closed, Short}
use Rattle.http_spec.specs.Asks.{ask_of, bad_request}
use Rattle.http_spec.specs.Heads.{max_head, IsHead, HasNoHead, CannotBecomeHead}
use Rattle.http_spec.specs.Replies.{reply_bytes, no_memory_bytes}
use Rattle.http_spec.specs.Sessions.{Showing, IsRefused, IsDue, refusal}
use Rattle.http_spec.proofs.HeadLemmas.{no_head_nil}
use Rattle.http_reply.specs.declared.reading.Fed.{Fed}
use Rattle.http_reply.specs.Feeding.{Held, Feeds, FedCase, EndsHead, Refuses}
use Rattle.hub.specs.Line.{Line}
use Rattle.hub.specs.Pieces.{Answered, OpenAfter, ClosedAfter, RefusedAfter, ShortAfter, StaysOpen, Steps}
use Rattle.hub.proofs.PieceLemmas.{open_waits, open_replies, open_closes, open_refused, open_short}

-- why the reader refuses bytes
why_refused : (rest : List ℕ) → HasNoHead rest → (max_head ≤ length rest) ⊎ CannotBecomeHead rest → IsRefused false rest
why_refused rest none (inl full) = (none, inl full)
why_refused rest none (inr doomed) = (none, inr (inl doomed))

-- the bytes so far, and more of the piece
bytes_on : (rest piece p : List ℕ) (from taken : ℕ) → p ≡ drop from piece → (rest ++ take from piece) ++ take taken p ≡ rest ++ take (from + taken) piece
bytes_on rest piece p from taken e =
    append_assoc rest (take from piece) (take taken p)
    ∙ ap (λ x. rest ++ (take from piece ++ take taken x)) e
    ∙ ap (λ x. rest ++ x) (sym (take-add from taken piece))

bytes_all : (rest piece p : List ℕ) (from : ℕ) → p ≡ drop from piece → (rest ++ take from piece) ++ p ≡ rest ++ piece
bytes_all rest piece p from e =
    append_assoc rest (take from piece) p ∙ ap (λ x. rest ++ (take from piece ++ x)) e ∙ ap (λ x. rest ++ x) (take-append-drop from piece)

-- one more reply is sent
sent_on : (old mid new replies : List (List ℕ)) (reply : List ℕ) → mid ≡ old ++ replies → new ≡ mid ++ reply ∷ [] → new ≡ old ++ (replies ++ reply ∷ [])
sent_on old mid new replies reply before e = e ∙ ap (λ x. x ++ reply ∷ []) before ∙ append_assoc old replies (reply ∷ [])

-- tests of the last reply
or_left : (a b : Bool) → (a || b) ≡ false → a ≡ false
or_left true b e = cc
or_left false b e = refl

or_true : (a : Bool) → (a || true) ≡ false → ⊥
or_true true e = cc
or_true false e = cc

not_last : (n : ℕ) → 0 < n → (n == 1) ≡ false → 1 < n
not_last n some e = grind (arith, nat_tests)

-- the heads that are answered after an ask
abbrev pub heads_after : (hosts : Option (List ℕ)) (rest p : List ℕ) (taken : ℕ) (ask : ParsedRequest) (after : Held) → FedCase hosts rest p taken (Some ask) after → List RequestHead → List RequestHead
heads_after hosts rest p taken ask after (inl w) heads = heads ++ w.0 ∷ []
heads_after hosts rest p taken ask after (inr refused) heads = heads

module _ (page : Showing) (before : Line) (piece p : List ℕ) (from taken : ℕ) (held : Line) (after : Held) (old mid new : List (List ℕ))
    (is : p ≡ drop from piece) (stays : StaysOpen page before (take from piece) held old mid) where
  -- no ask: the piece is at its end
  pub waits : FedCase page.hosts held.rest p taken None after → (s : StaysOpen page before piece (record { rest = after.rest; left = held.left }) old mid) × (s.heads ≡ stays.heads)
  waits fed =
      let rest_is : held.rest ++ p ≡ after.rest = sym (ap (λ (h : Held). h.rest) fed.after_is) in
      let opened = open_waits page before.left (before.rest ++ take from piece) stays.replies held.rest stays.heads p stays.stays fed.none fed.room in
      let Bytes : List ℕ → Type 0 = λ b. OpenAfter page before.left b stays.replies (held.rest ++ p) stays.heads in
      let Rest : List ℕ → Type 0 = λ r. OpenAfter page before.left (before.rest ++ piece) stays.replies r stays.heads in (
        record {
          replies = stays.replies;
          heads = stays.heads;
          stays = subst Rest rest_is (subst Bytes (bytes_all before.rest piece p from is) opened);
          left = stays.left;
          some = stays.some;
          sent = stays.sent;
        },
        refl,
      )

  -- what was sent for the head that ended
  head_answered : (ask : ParsedRequest) (h : RequestHead) (standing : Standing) → EndsHead page.hosts held.rest p taken ask after h
      → Answered page ask after.target (held.left == 1) standing mid new → Answered page (ask_of page.hosts h) h.target (held.left == 1) standing mid new
  head_answered ask h standing ends answered =
      let At : ParsedRequest → Type 0 = λ a. Answered page a after.target (held.left == 1) standing mid new in
      let Target : List ℕ → Type 0 = λ t. Answered page (ask_of page.hosts h) t (held.left == 1) standing mid new in
      subst Target (ap (λ (x : Held). x.target) ends.after_is) (subst At ends.ask_is answered)

  refusal_answered : (ask : ParsedRequest) (standing : Standing) → Refuses held.rest p taken ask after
      → Answered page ask after.target (held.left == 1) standing mid new → Answered page bad_request after.target (held.left == 1) standing mid new
  refusal_answered ask standing refused answered =
      let At : ParsedRequest → Type 0 = λ a. Answered page a after.target (held.left == 1) standing mid new in
      subst At refused.ask_is answered

  -- the reply left it open
  pub answered_open : (ask : ParsedRequest) (fed : FedCase page.hosts held.rest p taken (Some ask) after) → Answered page ask after.target (held.left == 1) Open mid new
      → (s : StaysOpen page before (take (from + taken) piece) (record { rest = after.rest; left = held.left - 1 }) old new)
      × (s.heads ≡ heads_after page.hosts held.rest p taken ask after fed stays.heads)
  answered_open ask (inl w) answered =
      let h = w.0 in
      let ends = w.1 in
      let said = head_answered ask h Open ends answered in
      let reply = reply_bytes (ask_of page.hosts h) said.0 ((held.left == 1) || (ask_of page.hosts h).close) in
      let some = stays.some in
      let count = stays.left in
      let more : 1 < held.left = not_last held.left some (or_left (held.left == 1) (ask_of page.hosts h).close said.2) in
      let opened = open_replies page before.left held.left (before.rest ++ take from piece) stays.replies held.rest stays.heads (take taken p) h reply
      stays.stays stays.left ends.head ends.whole (said.0, said.1, refl) said.2 in
      let Bytes : List ℕ → Type 0 = λ b. OpenAfter page before.left b (stays.replies ++ reply ∷ []) [] (stays.heads ++ h ∷ []) in
      let Rest : List ℕ → Type 0 = λ r. OpenAfter page before.left (before.rest ++ take (from + taken) piece) (stays.replies ++ reply ∷ []) r (stays.heads ++ h ∷ []) in (
        record {
          replies = stays.replies ++ reply ∷ [];
          heads = stays.heads ++ h ∷ [];
          stays = subst Rest (sym (ap (λ (x : Held). x.rest) ends.after_is)) (subst Bytes (bytes_on before.rest piece p from taken is) opened);
          left = omega (arith, length-append stays.heads (h ∷ []));
          some = omega arith;
          sent = sent_on old mid new stays.replies reply stays.sent said.3;
        },
        refl,
      )
  answered_open ask (inr refused) answered = absurd (or_true (held.left == 1) (refusal_answered ask Open refused answered).2)

  -- the reply closed it
  pub answered_closed : (ask : ParsedRequest) (then : Line) (fed : FedCase page.hosts held.rest p taken (Some ask) after) → Answered page ask after.target (held.left == 1) Closed mid new
      → Steps page before piece (heads_after page.hosts held.rest p taken ask after fed stays.heads) Closed then old new
  answered_closed ask then (inl w) answered =
      let h = w.0 in
      let ends = w.1 in
      let said = head_answered ask h Closed ends answered in
      let reply = reply_bytes (ask_of page.hosts h) said.0 ((held.left == 1) || (ask_of page.hosts h).close) in
      let more = drop (from + taken) piece in
      let closed = open_closes page before.left held.left (before.rest ++ take from piece) stays.replies held.rest stays.heads (take taken p) more h reply
      stays.stays stays.left ends.head ends.whole (said.0, said.1, refl) said.2 in
      let Bytes : List ℕ → Type 0 = λ b. ClosedAfter page before.left b (stays.replies ++ reply ∷ []) (stays.heads ++ h ∷ []) more in
      let whole : ((before.rest ++ take from piece) ++ take taken p) ++ more ≡ before.rest ++ piece =
      ap (λ x. x ++ more) (bytes_on before.rest piece p from taken is)
      ∙ append_assoc before.rest (take (from + taken) piece) more ∙ ap (λ x. before.rest ++ x) (take-append-drop (from + taken) piece) in (
        stays.replies ++ reply ∷ [],
        sent_on old mid new stays.replies reply stays.sent said.3,
        inl (more, subst Bytes whole closed),
      )
  answered_closed ask then (inr refused) answered =
      let said = refusal_answered ask Closed refused answered in
      let same : reply_bytes bad_request said.0 ((held.left == 1) || true) ≡ refusal = ap (λ b. reply_bytes bad_request said.0 b) said.2 in
      let Bytes : List ℕ → Type 0 = λ b. RefusedAfter page before.left b (stays.replies ++ refusal ∷ []) (held.rest ++ p) stays.heads stays.replies in (
        stays.replies ++ refusal ∷ [],
        sent_on old mid new stays.replies refusal stays.sent (said.3 ∙ ap (λ r. mid ++ r ∷ []) same),
        inr (
          held.rest ++ p,
          stays.replies,
          subst Bytes (bytes_all before.rest piece p from is)
              (open_refused page before.left (before.rest ++ take from piece) stays.replies held.rest stays.heads p stays.stays (why_refused (held.rest ++ p) refused.none refused.why)),
        ),
      )

  -- a further reply was due
  due : (ask : ParsedRequest) → FedCase page.hosts held.rest p taken (Some ask) after → IsDue false (held.rest ++ p)
  due ask (inl w) =
      inl (
        w.0,
        drop taken p,
        record {
          head = w.1.head;
          whole = ap (λ x. held.rest ++ x) (sym (take-append-drop taken p)) ∙ sym (append_assoc held.rest (take taken p) (drop taken p))
              ∙ ap (λ x. x ++ drop taken p) w.1.whole;
        },
      )
  due ask (inr refused) = inr (why_refused (held.rest ++ p) refused.none refused.why)

  -- memory was missing for it
  pub answered_short : (ask : ParsedRequest) (then : Line) → FedCase page.hosts held.rest p taken (Some ask) after → Answered page ask after.target (held.left == 1) Short mid new
      → Steps page before piece stays.heads Short then old new
  answered_short ask then fed answered =
      let Bytes : List ℕ → Type 0 = λ b. ShortAfter page before.left b (stays.replies ++ no_memory_bytes ∷ []) stays.heads (held.rest ++ p) stays.replies in (
        stays.replies ++ no_memory_bytes ∷ [],
        sent_on old mid new stays.replies no_memory_bytes stays.sent answered,
        (
          held.rest ++ p,
          stays.replies,
          subst Bytes (bytes_all before.rest piece p from is)
              (open_short page before.left (before.rest ++ take from piece) stays.replies held.rest stays.heads p stays.stays (due ask fed)),
        ),
      )

-- what a feed says, where its ask is known
pub fed_case : (hosts : Option (List ℕ)) (rest p : List ℕ) (fed : Fed) (asked : Option ParsedRequest) (after : Held) → fed.ask ≡ asked → Feeds hosts rest p fed after
    → FedCase hosts rest p fed.taken asked after
fed_case hosts rest p fed asked after e feeds = subst (λ a. FedCase hosts rest p fed.taken a after) e feeds

-- after an ask nothing is held of the bytes
pub asked_rest : (hosts : Option (List ℕ)) (rest p : List ℕ) (taken : ℕ) (ask : ParsedRequest) (after : Held) → FedCase hosts rest p taken (Some ask) after → after.rest ≡ []
asked_rest hosts rest p taken ask after (inl w) = ap (λ (x : Held). x.rest) w.1.after_is
asked_rest hosts rest p taken ask after (inr refused) = ap (λ (x : Held). x.rest) refused.after_is

pub no_head_asked : (after : Held) → after.rest ≡ [] → HasNoHead after.rest × (length after.rest < max_head)
no_head_asked after e = (
  subst HasNoHead (sym e) no_head_nil,
  subst (λ (s : List ℕ). length s < max_head) (sym e) (lit< tt),
)

-- before the first byte of a piece
abbrev pub starts : (page : Showing) (before : Line) (rest : List ℕ) (left : ℕ) (sent : List (List ℕ)) → record { rest = rest; left = left } ≡ before
    → HasNoHead rest → length rest < max_head → 0 < left → StaysOpen page before [] (record { rest = rest; left = left }) sent sent
starts page before rest left sent view none room some = record {
  replies = [];
  heads = [];
  stays = record {
    cut = record {
      each = All-nil IsHead;
      whole = append-nil before.rest ∙ sym (ap (λ (l : Line). l.rest) view);
      last = none;
    };
    answered = refl;
    room = room;
  };
  left = let same : left ≡ before.left = ap (λ (l : Line). l.left) view in omega arith;
  some = some;
  sent = sym (append-nil sent);
}
