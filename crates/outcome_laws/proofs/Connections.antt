-- What a connection is sent, where each target has an outcome: its bytes are cut into heads, one after another, each with
-- a reply, until one closes it or no head is left.
use Rattle.std.proofs.Common.{◌≡◌, ◌⊎◌, ℕ, zero, suc, ◌≤◌, ◌<◌, ◌-◌, Bool, true, false, List, [], ◌∷◌, ◌++◌, length, length-append, inl, inr, refl, sym, ap, subst, arith}
use Rattle.std.specs.Prelude.{MatchBool, ◌||◌, ◌==◌}
use Rattle.httparse.specs.Grammar.{RequestHead, print_request}
use Rattle.page_spec.specs.declared.Outcome.{Outcome}
use Rattle.page_spec.specs.declared.Outcome.TheVariants.{Missing}
use Rattle.page_spec.proofs.Addresses.{head_same, rests_same}
use Rattle.http_spec.specs.declared.RequestKind.{RequestKind}
use Rattle.http_spec.specs.declared.RequestKind.TheVariants.{Get, Head, BadRequest, Misdirected, WrongMethod}
use Rattle.http_spec.specs.declared.Standing.{Standing}
use Rattle.http_spec.specs.declared.Standing.TheVariants.{Open, Closed, Short}
use Rattle.http_spec.specs.Asks.{ask_of}
use Rattle.http_spec.specs.Heads.{max_head, IsHead, HasNoHead}
use Rattle.http_spec.specs.Replies.{reply_bytes}
use Rattle.http_spec.specs.Sessions.{Showing, IsLookedUp, IsReply, closes_after, HasReplies, refusal, Ends}
use Rattle.http_spec.specs.Sessions.{AnswersStream}
use Rattle.http_spec.specs.Streams.{Timed, Request, bytes_in, IsCutTo}
use Rattle.site_graphs.proofs.Decide.{yes, no}
use Rattle.outcome_laws.proofs.Targets.{dec_lt}
use Rattle.outcome_laws.proofs.Heads.{behind, begins_or_not, reads_nothing, are_line_ends_or_not, some_byte}

-- ---- the first head of a stream

-- a stream of these bytes and then others is parted at the last of these
record Parted {D : Type 0} (stream : List (Timed D)) (bytes : List ℕ) : Type 0 where
  pub front : List (Timed D)
  pub last : Timed D
  pub more : List (Timed D)
  pub whole : stream ≡ front ++ last ∷ more
  pub bytes_are : bytes_in (front ++ last ∷ []) ≡ bytes

parted_behind : {D : Type 0} (stream : List (Timed D)) (b : ℕ) (p rest : List ℕ)
    → bytes_in stream ≡ (b ∷ p) ++ rest → Parted stream (b ∷ p)
parted_behind [] b p rest e = let never : ⊥ = cc in absurd never
parted_behind (s ∷ stream) b [] rest e = record {
  front = [];
  last = s;
  more = stream;
  whole = refl;
  bytes_are = ap (λ (x : ℕ). x ∷ []) (head_same s.byte b (bytes_in stream) rest e);
}
parted_behind (s ∷ stream) b (c ∷ p) rest e =
    let later = parted_behind stream c p rest (rests_same s.byte b (bytes_in stream) ((c ∷ p) ++ rest) e) in
    let first = head_same s.byte b (bytes_in stream) ((c ∷ p) ++ rest) e in
    record {
      front = s ∷ later.front;
      last = later.last;
      more = later.more;
      whole = ap (λ xs. s ∷ xs) later.whole;
      bytes_are = λ i. first i ∷ later.bytes_are i;
    }

parted : {D : Type 0} (stream : List (Timed D)) (p rest : List ℕ) → 0 < length p → bytes_in stream ≡ p ++ rest
    → Parted stream p
parted stream [] rest some e = absurd (omega (arith, some))
parted stream (b ∷ p) rest some e = parted_behind stream b p rest e

fewer : {D : Type 0} (stream : List (Timed D)) (p : List ℕ) (c : Parted stream p) → length c.more < length stream
fewer stream p c =
    let whole = ap length c.whole in
    let both = length-append c.front (c.last ∷ c.more) in
    omega (arith, whole, both)

-- ---- how it ends

abbrev HasEnd : Bool → List ℕ → Bool → Type 0
HasEnd ended rest closed =
    (standing : Standing) × (last : List (List ℕ)) × (standing ≡ Short → ⊥) × Ends ended standing rest closed last

-- no head is there, and none has room
too_long : (ended : Bool) (rest : List ℕ) (closed : Bool) → closed ≡ false → HasNoHead rest → max_head ≤ length rest
    → HasEnd ended rest closed
too_long ended rest closed is none long = (Closed, refusal ∷ [], λ e. cc, inr (inl (is, (none, inl long), refl)))

short_rest : (ended : Bool) (rest : List ℕ) (closed : Bool) → closed ≡ false → HasNoHead rest → length rest < max_head
    → HasEnd ended rest closed
short_rest false rest closed is none few = (Open, [], λ e. cc, (refl, is, (none, few), refl))
short_rest true rest closed is none few =
    elim (are_line_ends_or_not rest) [
      | yes blank ↦ (Closed, [], λ e. cc, inr (inr (is, refl, (none, few), blank, refl)))
      | no more ↦ (Closed, refusal ∷ [], λ e. cc, inr (inl (is, (none, inr (inr (refl, more))), refl)))
    ]

end_of : (ended : Bool) (rest : List ℕ) (closed : Bool)
    → (closed ≡ true) ⊎ ((closed ≡ false) × HasNoHead rest) → HasEnd ended rest closed
end_of ended rest closed (inl is) = (Closed, [], λ e. cc, inl (is, refl))
end_of ended rest closed (inr h) =
    elim (dec_lt (length rest) max_head) [
      | yes few ↦ short_rest ended rest closed h.0 h.1 few
      | no many ↦ too_long ended rest closed h.0 h.1 (let long : max_head ≤ length rest = omega (arith, many) in long)
    ]

module _ {D : Type 0} (page : D → Showing)
    (some : (current : D) (target : List ℕ) → (o : Outcome) × (page current).outcome target o) where
  -- ---- the replies to heads

  looked_up : (current : D) (kind : RequestKind) (target : List ℕ) → (o : Outcome) × IsLookedUp (page current) kind target o
  looked_up current Get target = some current target
  looked_up current Head target = some current target
  looked_up current BadRequest target = (Missing, tt)
  looked_up current Misdirected target = (Missing, tt)
  looked_up current WrongMethod target = (Missing, tt)

  reply_to : (current : D) (h : RequestHead) (last : Bool) → (bytes : List ℕ) × IsReply (page current) h last bytes
  reply_to current h last =
      let o = looked_up current (ask_of (page current).hosts h).kind h.target in
      (reply_bytes (ask_of (page current).hosts h) o.0 (last || (ask_of (page current).hosts h).close), (o.0, o.1, refl))

  -- the heads at the front of a stream have replies, and then it is closed or no head is left
  record Handled (left : ℕ) (stream : List (Timed D)) : Type 0 where
    pub requests : List (Request D)
    pub rest : List (Timed D)
    pub replies : List (List ℕ)
    pub closed : Bool
    pub cut : IsCutTo stream requests rest
    pub answered : HasReplies page left requests replies closed
    pub done : (closed ≡ true) ⊎ ((closed ≡ false) × HasNoHead (bytes_in rest))

  no_more : (left : ℕ) (stream : List (Timed D)) → HasNoHead (bytes_in stream) → Handled left stream
  no_more left stream none = record {
    requests = [];
    rest = stream;
    replies = [];
    closed = false;
    cut = refl;
    answered = refl;
    done = inr (refl, none);
  }

  -- what is after a reply, by whether the connection closes
  abbrev Goes : ℕ → List (Request D) → List (List ℕ) → Bool → Bool → Type 0
  Goes left requests replies closed closes =
      MatchBool closes ((requests ≡ []) × (replies ≡ []) × (closed ≡ true))
      (HasReplies page (left - 1) requests replies closed)

  one_more : (left : ℕ) (stream : List (Timed D)) (h : RequestHead) → IsHead h → (c : Parted stream (print_request h))
      → Handled (left - 1) c.more → Handled left stream
  one_more left stream h valid c later = by (closes_after (page c.last.current) left h) refl
    where
      request : Request D
      request = record { head = h; current = c.last.current }

      reply : (bytes : List ℕ) × IsReply (page c.last.current) h (left == 1) bytes
      reply = reply_to c.last.current h (left == 1)

      by : (closes : Bool) → closes_after (page c.last.current) left h ≡ closes → Handled left stream
      by true is = record {
        requests = request ∷ [];
        rest = c.more;
        replies = reply.0 ∷ [];
        closed = true;
        cut = (c.front, c.last, c.more, valid, c.whole, c.bytes_are, refl, refl);
        answered = (reply.1, subst (Goes left [] [] true) (sym is) (refl, refl, refl));
        done = inl refl;
      }
      by false is = record {
        requests = request ∷ later.requests;
        rest = later.rest;
        replies = reply.0 ∷ later.replies;
        closed = later.closed;
        cut = (c.front, c.last, c.more, valid, c.whole, c.bytes_are, refl, later.cut);
        answered = (reply.1, subst (Goes left later.requests later.replies later.closed) (sym is) later.answered);
        done = later.done;
      }

  handled : (fuel left : ℕ) (stream : List (Timed D)) → length stream ≤ fuel → Handled left stream
  handled zero left stream few =
      elim (begins_or_not (bytes_in stream)) [
        | yes h ↦
            let c = parted stream (print_request h.0) (behind (bytes_in stream) h.0) (some_byte h.0 h.1.0) h.1.1 in
            let less = fewer stream (print_request h.0) c in
            absurd (omega (arith, few, less))
        | no none ↦ no_more left stream (reads_nothing (bytes_in stream) none)
      ]
  handled (suc fuel) left stream few =
      elim (begins_or_not (bytes_in stream)) [
        | yes h ↦
            let c = parted stream (print_request h.0) (behind (bytes_in stream) h.0) (some_byte h.0 h.1.0) h.1.1 in
            let less = fewer stream (print_request h.0) c in
            let shorter : length c.more ≤ fuel = omega (arith, few, less) in
            one_more left stream h.0 h.1.0 c (handled fuel (left - 1) c.more shorter)
        | no none ↦ no_more left stream (reads_nothing (bytes_in stream) none)
      ]

  pub answer_of : (limit : ℕ) (stream : List (Timed D)) (ended : Bool)
      → (standing : Standing) × (replies : List (List ℕ)) × (standing ≡ Short → ⊥)
      × AnswersStream page limit stream ended standing replies
  answer_of limit stream ended =
      let h = handled (length stream) limit stream (omega arith) in
      let e = end_of ended (bytes_in h.rest) h.closed h.done in (
        e.0,
        h.replies ++ e.1,
        e.2,
        record {
          requests = h.requests;
          rest = h.rest;
          answered = h.replies;
          closed = h.closed;
          last = e.1;
          session = record { cut = h.cut; answered = h.answered };
          ends = e.3;
          whole = refl;
        },
      )
