-- What one connection was sent.
use Rattle.std.specs.Prelude.{ℕ}
use Rattle.wire.specs.Accounts.{Account}

-- how many sends there were, what was done to it, how often it was closed, and how many sends failed
pub record Sent : Type 0 where
  pub sends : ℕ
  pub account : Account
  pub closes : ℕ
  pub faults : ℕ
