-- What one piece of a connection's bytes asks for, while the data do not change.
use Rattle.std.specs.Prelude.{◌≡◌, ℕ, ◌+◌, ◌-◌, ◌<◌, ◌⊎◌, Bool, true, false, ◌||◌, ◌==◌, List, [], ◌∷◌, ◌++◌, length, All, MatchBool}
use Rattle.httparse.specs.Grammar.{RequestHead}
use Rattle.page_spec.specs.declared.Outcome.{Outcome}
use Rattle.http_spec.specs.declared.ParsedRequest.{ParsedRequest}
use Rattle.http_spec.specs.declared.Standing.{Standing}
use Rattle.http_spec.specs.declared.Standing.TheVariants.{Open, Closed, Short}
use Rattle.http_spec.specs.Heads.{max_head, IsHead, AreLineEnds, Cuts, print_heads}
use Rattle.http_spec.specs.Replies.{reply_bytes, no_memory_bytes}
use Rattle.http_spec.specs.Sessions.{Showing, IsLookedUp, IsReply, closes_after, refusal, IsRefused, IsDue}
use Rattle.hub.specs.Line.{Line}

-- the replies to these heads, one each, in order; only the last may close, and closed says whether it does
abbrev pub AreReplies : Showing → ℕ → List RequestHead → List (List ℕ) → Bool → Type 0
AreReplies page left [] [] closed = closed ≡ false
AreReplies page left [] (reply ∷ replies) closed = ⊥
AreReplies page left (h ∷ heads) [] closed = ⊥
AreReplies page left (h ∷ heads) (reply ∷ replies) closed =
    IsReply page h (left == 1) reply
    × MatchBool (closes_after page left h)
    ((heads ≡ []) × (replies ≡ []) × (closed ≡ true))
    (AreReplies page (left - 1) heads replies closed)

-- the connection is open: none of the replies closed it, and the rest has room for the head that may follow
pub record OpenAfter (page : Showing) (limit : ℕ) (bytes : List ℕ) (replies : List (List ℕ))
    (rest : List ℕ) (heads : List RequestHead) : Type 0 where
  pub cut : Cuts bytes heads rest
  pub answered : AreReplies page limit heads replies false
  pub room : length rest < max_head

-- a reply to a head closed the connection; what follows that head has no reply
pub record ClosedAfter (page : Showing) (limit : ℕ) (bytes : List ℕ) (replies : List (List ℕ))
    (heads : List RequestHead) (more : List ℕ) : Type 0 where
  pub each : All IsHead heads
  pub whole : bytes ≡ print_heads heads ++ more
  pub answered : AreReplies page limit heads replies true

-- the rest is refused by a 400
pub record RefusedAfter (page : Showing) (limit : ℕ) (bytes : List ℕ) (replies : List (List ℕ))
    (rest : List ℕ) (heads : List RequestHead) (answered : List (List ℕ)) : Type 0 where
  pub each : All IsHead heads
  pub whole : bytes ≡ print_heads heads ++ rest
  pub answers : AreReplies page limit heads answered false
  pub why : IsRefused false rest
  pub then_refused : replies ≡ answered ++ refusal ∷ []

-- out of memory for the reply after these, which is a 503 in its place
pub record ShortAfter (page : Showing) (limit : ℕ) (bytes : List ℕ) (replies : List (List ℕ))
    (heads : List RequestHead) (more : List ℕ) (answered : List (List ℕ)) : Type 0 where
  pub each : All IsHead heads
  pub whole : bytes ≡ print_heads heads ++ more
  pub answers : AreReplies page limit heads answered false
  pub due : IsDue false more
  pub then_short : replies ≡ answered ++ no_memory_bytes ∷ []

-- what was sent for one ask
abbrev pub Answered : Showing → ParsedRequest → List ℕ → Bool → Standing → List (List ℕ)
    → List (List ℕ)
    → Type 0
Answered page ask target last Open old new =
    (outcome : Outcome) × IsLookedUp page ask.kind target outcome × ((last || ask.close) ≡ false)
    × (new ≡ old ++ reply_bytes ask outcome (last || ask.close) ∷ [])
Answered page ask target last Closed old new =
    (outcome : Outcome) × IsLookedUp page ask.kind target outcome × ((last || ask.close) ≡ true)
    × (new ≡ old ++ reply_bytes ask outcome (last || ask.close) ∷ [])
Answered page ask target last Short old new = new ≡ old ++ no_memory_bytes ∷ []

-- the connection stays open
pub record StaysOpen (page : Showing) (before : Line) (piece : List ℕ) (after : Line)
    (old new : List (List ℕ)) : Type 0 where
  pub replies : List (List ℕ)
  pub heads : List RequestHead
  pub stays : OpenAfter page before.left (before.rest ++ piece) replies after.rest heads
  pub left : after.left + length heads ≡ before.left
  pub some : 0 < after.left
  pub sent : new ≡ old ++ replies

-- what one piece does, where these heads are answered
abbrev pub Steps : Showing → Line → List ℕ → List RequestHead → Standing → Line → List (List ℕ)
    → List (List ℕ) → Type 0
Steps page before piece heads Open after old new =
    (stays : StaysOpen page before piece after old new) × (stays.heads ≡ heads)
Steps page before piece heads Closed after old new =
    (replies : List (List ℕ)) × (new ≡ old ++ replies)
    × (((more : List ℕ) × ClosedAfter page before.left (before.rest ++ piece) replies heads more)
    ⊎ ((rest : List ℕ) × (answered : List (List ℕ))
    × RefusedAfter page before.left (before.rest ++ piece) replies rest heads answered))
Steps page before piece heads Short after old new =
    (replies : List (List ℕ)) × (new ≡ old ++ replies)
    × ((more : List ℕ) × (answered : List (List ℕ))
    × ShortAfter page before.left (before.rest ++ piece) replies heads more answered)

-- what is sent at the end of the input of an open connection, of which this rest is left
abbrev pub AtEnd : List ℕ → Standing → List (List ℕ) → Type 0
AtEnd rest Open sent = ⊥
AtEnd rest Closed sent =
    (AreLineEnds rest × (sent ≡ [])) ⊎ (¬ (AreLineEnds rest) × (sent ≡ refusal ∷ []))
AtEnd rest Short sent = ¬ (AreLineEnds rest) × (sent ≡ no_memory_bytes ∷ [])
