-- What the reader of a script's bytes answers, and that a script has one answer.
use Rattle.std.specs.Prelude.{◌≡◌, ◌≢◌, ℕ, ◌≤◌, List, [], length, Result, Ok, Err, ⊤}
use Rattle.std.specs.Global.{Vec}
use Rattle.sd_lex.specs.declared.token.Token.{Token}
use Rattle.sd_lex.specs.declared.refusal.LexRefusal.TheVariants as lexer
use Rattle.sd_lex.specs.Lexing.{IsTextOrFault}
use Rattle.grammar.specs.Fault.{FirstFault}
use Rattle.token_reader.specs.Gives.{place, IsReal}
use Rattle.happenings.specs.declared.event.WireEvent.{WireEvent}
use Rattle.happenings.specs.declared.event.WireEvent.TheVariants.{Opened, Bytes, Ended, Lost, Change, Done}
use Rattle.token_reader.specs.declared.refusal.TextRefusal.{TextRefusal}
use Rattle.token_reader.specs.declared.refusal.TextRefusal.TheVariants.{TooLong, BadByte, OpenString, IntOutOfRange, Expected, NoMemory}
use Rattle.script_reader.specs.ScriptText.{script, events}

-- The text's tokens spell phrases with these events.
abbrev pub IsScript : ℕ → List ℕ → List WireEvent → Type 0
IsScript limit bytes found =
    (tokens : List Token) × IsTextOrFault limit bytes (Ok tokens) × (phrases : List WireEvent)
    × script tokens phrases × (found ≡ events phrases)

-- This is the place of the first token such that no script begins with the tokens up to and with it, or the text's end
-- where more tokens are wanted.
abbrev pub IsFaultAt : ℕ → List ℕ → ℕ → Type 0
IsFaultAt limit bytes at =
    (tokens : List Token) × IsTextOrFault limit bytes (Ok tokens) × (rest : List Token)
    × FirstFault IsReal script script tokens rest × (at ≡ place (length bytes) rest)

-- `Ok` has the events of the script. A text that has no tokens has the lexer's fault; one whose tokens spell no script
-- has the first fault of the grammar.
abbrev pub Reads : ℕ → List ℕ → Result (List WireEvent) TextRefusal → Type 0
Reads limit bytes (Ok found) = IsScript limit bytes found
Reads limit bytes (Err (TooLong at)) = IsTextOrFault limit bytes (Err (lexer.TooLong at))
Reads limit bytes (Err (BadByte at)) = IsTextOrFault limit bytes (Err (lexer.BadByte at))
Reads limit bytes (Err (OpenString at)) = IsTextOrFault limit bytes (Err (lexer.OpenString at))
Reads limit bytes (Err (IntOutOfRange at)) =
    IsTextOrFault limit bytes (Err (lexer.IntOutOfRange at))
Reads limit bytes (Err (Expected at)) = IsFaultAt limit bytes at
Reads limit bytes (Err NoMemory) = Unit {0}

-- a text, or an event of a connection, whose number is from 1 on, and no empty piece
abbrev pub IsScripted : WireEvent → Type 0
IsScripted (Opened number) = 1 ≤ number
IsScripted (Bytes number bytes) = (1 ≤ number) × (bytes ≢ [])
IsScripted (Ended number) = 1 ≤ number
IsScripted (Lost number) = 1 ≤ number
IsScripted (Change text) = ⊤
IsScripted Done = ⊥

-- an answer as a list of events
abbrev pub told : Result (Vec WireEvent) TextRefusal → Result (List WireEvent) TextRefusal
told (Ok v) = Ok v.items
told (Err e) = Err e

-- any answer but out of memory
abbrev pub IsSettled : Result (List WireEvent) TextRefusal → Type 0
IsSettled (Err NoMemory) = ⊥
IsSettled answer = ⊤

-- two such answers to the same bytes are equal
abbrev pub HasOneAnswer : ℕ → List ℕ → Type 0
HasOneAnswer limit bytes =
    (r s : Result (List WireEvent) TextRefusal) → Reads limit bytes r → Reads limit bytes s
    → IsSettled r → IsSettled s → r ≡ s
