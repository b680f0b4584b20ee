-- What a hub is, as its callers see it.
use Rattle.std.specs.Prelude.{ℕ, Bool, List, Option}
use Rattle.std.specs.BTreeMap.{is_at}
use Rattle.std.specs.Map.{lookup}
use Rattle.std.specs.Ordering.{nat_cmp}
use Rattle.wire.specs.Accounts.{Account}
use Rattle.serving_spec.specs.declared.Origin.{Origin}
use Rattle.hub.specs.Course.{Scene}
use Rattle.hub.specs.Line.{Line}
use Rattle.hub.specs.Turns.{ats}

-- a hub
pub record HubState (P : Type 0) : Type 0 where
  -- the pages, and what is kept of them
  pub pages : P
  -- the open connections with their numbers
  pub lines : List (ℕ × Line)
  -- the greatest number opened
  pub greatest : Option ℕ
  -- how many replies a connection may have
  pub limit : ℕ
  -- what the run answers for
  pub origin : Origin
  -- out of memory for a change: no further event is taken
  pub spent : Bool
  -- how many connections were opened
  pub opened : ℕ
  -- how many replies were made
  pub replies : ℕ
  -- how many texts came to change the data, and how many of them were refused
  pub changes : ℕ
  pub refused : ℕ

-- the open connection of a number
abbrev pub line_of : {P : Type 0} → HubState P → ℕ → Option Line
line_of hub number = lookup (is_at (nat_cmp number)) hub.lines

-- a hub and its wire at one moment of a run
abbrev pub scene : {P D C : Type 0} → (P → D) → (P → C) → HubState P → (ℕ → Option Account)
    → (ℕ → ℕ)
    → Scene D C
scene state cache hub accounts faults = record {
  ats = ats (line_of hub) accounts faults;
  current = state hub.pages;
  greatest = hub.greatest;
  opened = hub.opened;
  replies = hub.replies;
  changes = hub.changes;
  refused = hub.refused;
  cache = cache hub.pages;
}
