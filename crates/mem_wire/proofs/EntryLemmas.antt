-- Entries of the connections that events open.
use Rattle.std.proofs.Common.{◌≡◌, ℕ, ◌+◌, ◌<◌, ◌≤◌, List, length, Option, subst, sym, take, get_or, All}
use Rattle.std.specs.Prelude.{IsSome}
use Rattle.std.proofs.lemmas.List.{take_all}
use Rattle.std.proofs.lemmas.List.Elements.{All-more, All-weaker}
use Rattle.happenings.specs.declared.event.WireEvent.{WireEvent}
use Rattle.happenings.specs.declared.event.WireEvent.TheVariants.{Opened, Bytes, Ended, Lost, Change, Done}
use Rattle.mem_wire.specs.Sent.{Sent}
use Rattle.mem_wire.specs.WireInMemory.{HasEntry}

pub has_more : (old new : ℕ → Option Sent) → ((number : ℕ) → IsSome (old number) → IsSome (new number)) → (e : WireEvent) → HasEntry old e → HasEntry new e
has_more old new stay (Opened number) has = stay number has
has_more old new stay (Bytes number piece) has = has
has_more old new stay (Ended number) has = has
has_more old new stay (Lost number) has = has
has_more old new stay (Change text) has = has
has_more old new stay Done has = has

-- one event more
pub all_more : (old new : ℕ → Option Sent) (events : List WireEvent) (i : ℕ) (e : WireEvent) → i < length events → get_or events i e ≡ e
    → ((number : ℕ) → IsSome (old number) → IsSome (new number)) → HasEntry new e → All (HasEntry old) (take i events) → All (HasEntry new) (take (i + 1) events)
all_more old new events i e inside is stay has before =
    All-more (HasEntry new) events i e inside (All-weaker (HasEntry old) (HasEntry new) (has_more old new stay) (take i events) before)
    (subst (HasEntry new) (sym is) has)

-- all events
pub all_events : (entry : ℕ → Option Sent) (events : List WireEvent) (n : ℕ) → length events ≤ n → All (HasEntry entry) (take n events) → All (HasEntry entry) events
all_events entry events n whole has = subst (All (HasEntry entry)) (take_all n events whole) has
