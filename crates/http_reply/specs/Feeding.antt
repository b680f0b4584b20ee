-- What a reader of requests holds, and what one piece of a connection's bytes makes of it.
use Rattle.std.specs.Prelude.{◌≡◌, ℕ, ◌<◌, ◌≤◌, ◌⊎◌, List, [], ◌++◌, length, take, Option, Some, None}
use Rattle.httparse.specs.Grammar.{RequestHead, print_request}
use Rattle.http_spec.specs.declared.ParsedRequest.{ParsedRequest}
use Rattle.http_reply.specs.declared.reading.Fed.{Fed}
use Rattle.http_spec.specs.Asks.{ask_of, bad_request}
use Rattle.http_spec.specs.Heads.{max_head, IsHead, HasNoHead, AreLineEnds, CannotBecomeHead}

-- The bytes that came since the last whole head, and that head's target. The target is empty where no
-- whole head was the last thing read.
pub record Held : Type 0 where
  pub rest : List ℕ
  pub target : List ℕ

-- nothing is held
abbrev pub nothing_held : Held
nothing_held = record { rest = []; target = [] }

-- The piece ends the head h, where requests for these hosts are answered.
pub record EndsHead (hosts : Option (List ℕ)) (rest piece : List ℕ) (taken : ℕ) (ask : ParsedRequest) (after : Held)
    (h : RequestHead) : Type 0 where
  pub head : IsHead h
  pub within : taken ≤ length piece
  pub whole : rest ++ take taken piece ≡ print_request h
  pub ask_is : ask ≡ ask_of hosts h
  pub after_is : after ≡ record { rest = []; target = h.target }

-- The piece was taken, and there is no head yet.
pub record Waits (rest piece : List ℕ) (taken : ℕ) (after : Held) : Type 0 where
  pub all : taken ≡ length piece
  pub none : HasNoHead (rest ++ piece)
  pub room : length (rest ++ piece) < max_head
  pub after_is : after ≡ record { rest = rest ++ piece; target = [] }

-- There is no head, and either no room for one is left or none can come.
pub record Refuses (rest piece : List ℕ) (taken : ℕ) (ask : ParsedRequest)
    (after : Held) : Type 0 where
  pub all : taken ≡ length piece
  pub none : HasNoHead (rest ++ piece)
  pub why : (max_head ≤ length (rest ++ piece)) ⊎ CannotBecomeHead (rest ++ piece)
  pub ask_is : ask ≡ bad_request
  pub after_is : after ≡ nothing_held

-- what is asked for, if anything
abbrev pub FedCase : Option (List ℕ) → List ℕ → List ℕ → ℕ → Option ParsedRequest → Held → Type 0
FedCase hosts rest piece taken None after = Waits rest piece taken after
FedCase hosts rest piece taken (Some ask) after =
    ((h : RequestHead) × EndsHead hosts rest piece taken ask after h)
    ⊎ Refuses rest piece taken ask after

-- what a piece makes of a rest
abbrev pub Feeds : Option (List ℕ) → List ℕ → List ℕ → Fed → Held → Type 0
Feeds hosts rest piece fed after = FedCase hosts rest piece fed.taken fed.ask after

-- the end of the input gives a 400 exactly where the rest is no list of line ends
abbrev pub EndsWith : List ℕ → Option ParsedRequest → Type 0
EndsWith rest None = AreLineEnds rest
EndsWith rest (Some ask) = (ask ≡ bad_request) × ¬ (AreLineEnds rest)
