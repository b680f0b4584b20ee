-- The grammar of scripts: which tokens spell which events.
--
--   script := { "open" Int | "bytes" Int Quoted | "end" Int | "lost" Int | "change" Quoted }
--
-- Each number is a connection's, from 1 on. The text of a change may become the data of the run.
use Rattle.std.specs.Prelude.{Bool, true, false, List, [], ◌∷◌, filter, codes}
use Rattle.sd_lex.specs.declared.token.Token.{Token}
use Rattle.grammar.specs.Grammar.{nothing, ◌>>=◌, ◌>>◌, either, many}
use Rattle.token_reader.specs.Terminals.{quoted, word}
use Rattle.happenings.specs.declared.event.WireEvent.{WireEvent}
use Rattle.happenings.specs.declared.event.WireEvent.TheVariants.{Opened, Bytes, Ended, Lost, Change, Done}
use Rattle.script_reader.specs.Terminals.{connection}

abbrev pub opening : List Token → WireEvent → Type 0
opening = do
  word (codes "open")
  number ← connection
  nothing (Opened number)

abbrev pub piece : List Token → WireEvent → Type 0
piece = do
  word (codes "bytes")
  number ← connection
  bytes ← quoted
  nothing (Bytes number bytes.text)

abbrev pub ending : List Token → WireEvent → Type 0
ending = do
  word (codes "end")
  number ← connection
  nothing (Ended number)

abbrev pub loss : List Token → WireEvent → Type 0
loss = do
  word (codes "lost")
  number ← connection
  nothing (Lost number)

abbrev pub change : List Token → WireEvent → Type 0
change = do
  word (codes "change")
  text ← quoted
  nothing (Change text.text)

abbrev pub phrase : List Token → WireEvent → Type 0
phrase = either opening (either piece (either ending (either loss change)))

abbrev pub script : List Token → List WireEvent → Type 0
script = many phrase

-- An empty piece is no event, but a change to an empty text is one.
abbrev pub is_event : WireEvent → Bool
is_event (Opened number) = true
is_event (Bytes number []) = false
is_event (Bytes number (byte ∷ bytes)) = true
is_event (Ended number) = true
is_event (Lost number) = true
is_event (Change text) = true
is_event Done = true

-- the events of a script's phrases
abbrev pub events : List WireEvent → List WireEvent
events phrases = filter is_event phrases
