-- What a connection is sent for what came of it.
use Rattle.std.specs.Prelude.{◌≡◌, ◌⊎◌, ℕ, Bool, true, false, List, [], ◌++◌}
use Rattle.http_spec.specs.declared.Standing.{Standing}
use Rattle.http_spec.specs.Sessions.{Showing, HasAnswer}
use Rattle.http_spec.specs.Streams.{Timed}
use Rattle.wire.specs.Told.{WireReport}
use Rattle.serving_spec.specs.Delivered.{Seen, AllSent, CutOff}
use Rattle.serving_spec.specs.Inputs.{Input, Unopened, Coming, Over}

-- what the wire reports of the connection of a number
abbrev pub seen : WireReport → ℕ → Seen
seen wire number = record { account = wire.account number; faults = wire.faults number }

-- Over what it is to answer a stream that has ended or not.
module _ {D : Type 0} (IsAnswer : List (Timed D) → Bool → Standing → List (List ℕ) → Type 0) where
  -- the replies to bytes at the front of the stream
  pub record FrontOf (stream : List (Timed D)) (ended : Bool) (standing : Standing)
      (replies : List (List ℕ)) : Type 0 where
    pub front : List (Timed D)
    pub more : List (Timed D)
    pub at_end : Bool
    pub cut : stream ≡ front ++ more
    pub ends_so : at_end ≡ true → (ended ≡ true) × (more ≡ [])
    pub answer : IsAnswer front at_end standing replies

  -- all of an answer to the stream was sent, or a send of an answer to its front failed
  abbrev pub SettledBy : List (Timed D) → Bool → Seen → Seen → Type 0
  SettledBy stream ended before after =
      AllSent (IsAnswer stream ended) before after ⊎ CutOff (FrontOf stream ended) before after

  -- What a connection was sent: nothing, if it was never opened; else what settles the bytes that came of it.
  abbrev pub IsServedBy : Input D → Seen → Seen → Type 0
  IsServedBy Unopened before after = after ≡ before
  IsServedBy (Coming stream) before after = SettledBy stream false before after
  IsServedBy (Over ended stream) before after = SettledBy stream ended before after

-- the same for pages whose data may change, if a connection has at most limit replies
abbrev pub IsServed : {D : Type 0} → (D → Showing) → ℕ → Input D → Seen → Seen → Type 0
IsServed page limit = IsServedBy (HasAnswer page limit)
