-- Reading scripts from left to right: one function for each part of the grammar.
use Rattle.std.specs.Prelude.{Bool, ◌||◌, List, codes}
use Rattle.sd_lex.specs.declared.token.Token.{Token}
use Rattle.grammar.specs.Reading.{Outcome, ◌>>=◌, ◌>>◌, give, finish, choose, repeat}
use Rattle.token_reader.specs.Terminals.{is_word, read_quoted, read_word}
use Rattle.happenings.specs.declared.event.WireEvent.{WireEvent}
use Rattle.happenings.specs.declared.event.WireEvent.TheVariants.{Opened, Bytes, Ended, Lost, Change}
use Rattle.script_reader.specs.Terminals.{read_connection}

unfoldable pub read_opening : List Token → Outcome Token WireEvent
read_opening = do
  read_word (codes "open")
  number ← read_connection
  give (Opened number)

unfoldable pub read_piece : List Token → Outcome Token WireEvent
read_piece = do
  read_word (codes "bytes")
  number ← read_connection
  bytes ← read_quoted
  give (Bytes number bytes.text)

unfoldable pub read_ending : List Token → Outcome Token WireEvent
read_ending = do
  read_word (codes "end")
  number ← read_connection
  give (Ended number)

unfoldable pub read_loss : List Token → Outcome Token WireEvent
read_loss = do
  read_word (codes "lost")
  number ← read_connection
  give (Lost number)

unfoldable pub read_change : List Token → Outcome Token WireEvent
read_change = do
  read_word (codes "change")
  text ← read_quoted
  give (Change text.text)

unfoldable pub read_phrase : List Token → Outcome Token WireEvent
read_phrase =
    choose (is_word (codes "open")) read_opening
    (choose (is_word (codes "bytes")) read_piece
    (choose (is_word (codes "end")) read_ending
    (choose (is_word (codes "lost")) read_loss read_change)))

abbrev pub begins_phrase : Token → Bool
begins_phrase t =
    is_word (codes "open") t ||
    (is_word (codes "bytes") t ||
    (is_word (codes "end") t || (is_word (codes "lost") t || is_word (codes "change") t)))

unfoldable pub read_phrases : List Token → Outcome Token (List WireEvent)
read_phrases = do
  phrases ← repeat begins_phrase read_phrase
  finish phrases
