-- How the replies of an answer were sent.
use Rattle.std.specs.Prelude.{◌≡◌, ℕ, List, [], ◌∷◌, ◌++◌, take, Option}
use Rattle.edge_io.specs.Counts.{Rose}
use Rattle.http_spec.specs.declared.Standing.{Standing}
use Rattle.http_spec.specs.declared.Standing.TheVariants.{Open, Closed, Short}
use Rattle.wire.specs.Accounts.{Account, send_to, gain, close_to}

-- what a wire reports of one connection: what it was sent, and how often a send failed
pub record Seen : Type 0 where
  pub account : Option Account
  pub faults : ℕ

-- the account after an answer that left the connection so: one that shuts it closes it
abbrev pub closing : Standing → Option Account → Option Account
closing Open account = account
closing Closed account = close_to account
closing Short account = close_to account

-- All replies of an answer were sent, each whole in one send, and the connection was closed exactly if the answer shuts it.
pub record AllSent (IsAnswer : Standing → List (List ℕ) → Type 0) (before after : Seen)
    : Type 0 where
  pub standing : Standing
  pub replies : List (List ℕ)
  pub answer : IsAnswer standing replies
  pub account : after.account ≡ closing standing (gain before.account replies)
  pub faults : after.faults ≡ before.faults

-- A send failed. The replies before its own were sent, each whole in one send, then some first bytes of its own, and
-- nothing more; the connection was not closed.
pub record CutOff (IsAnswer : Standing → List (List ℕ) → Type 0) (before after : Seen)
    : Type 0 where
  pub standing : Standing
  pub sent : List (List ℕ)
  pub next : List ℕ
  pub some : ℕ
  pub answer : IsAnswer standing (sent ++ next ∷ [])
  pub account : after.account ≡ send_to (gain before.account sent) (take some next)
  pub faults : Rose before.faults after.faults
