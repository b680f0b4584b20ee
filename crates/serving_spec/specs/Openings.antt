-- When a connection is opened.
use Rattle.std.specs.Prelude.{ℕ, Bool, true, List, [], ◌∷◌, ◌++◌, Option, Some, None, nat_lt, if◌then◌else◌}
use Rattle.wire.specs.Accounts.{up}
use Rattle.happenings.specs.declared.event.WireEvent.{WireEvent}
use Rattle.happenings.specs.declared.event.WireEvent.TheVariants.{Opened, Bytes, Ended, Lost, Change, Done}

-- An event opens the connection of its number, where the number is above all that were opened before.
abbrev pub counts : Option ℕ → ℕ → Bool
counts None number = true
counts (Some greatest) number = nat_lt greatest number

-- the greatest number opened, after the event
abbrev pub greatest_after : WireEvent → Option ℕ → Option ℕ
greatest_after (Opened number) greatest = if counts greatest number then Some number else greatest
greatest_after (Bytes number piece) greatest = greatest
greatest_after (Ended number) greatest = greatest
greatest_after (Lost number) greatest = greatest
greatest_after (Change text) greatest = greatest
greatest_after Done greatest = greatest

-- how many connections were opened, after the event
abbrev pub opened_after : WireEvent → Option ℕ → ℕ → ℕ
opened_after (Opened number) greatest opened = if counts greatest number then up opened else opened
opened_after (Bytes number piece) greatest opened = opened
opened_after (Ended number) greatest opened = opened
opened_after (Lost number) greatest opened = opened
opened_after (Change text) greatest opened = opened
opened_after Done greatest opened = opened

-- the number that the event opens, if it opens one
abbrev pub opens : Option ℕ → WireEvent → List ℕ
opens greatest (Opened number) = if counts greatest number then number ∷ [] else []
opens greatest (Bytes number piece) = []
opens greatest (Ended number) = []
opens greatest (Lost number) = []
opens greatest (Change text) = []
opens greatest Done = []

-- the numbers that the events open, where this is the greatest that was opened before
abbrev pub opened_from : Option ℕ → List WireEvent → List ℕ
opened_from greatest [] = []
opened_from greatest (event ∷ events) =
    opens greatest event ++ opened_from (greatest_after event greatest) events

-- the numbers that the events open, ascending
abbrev pub opened_in : List WireEvent → List ℕ
opened_in events = opened_from None events
