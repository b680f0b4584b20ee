-- Reading constraints from left to right: one function for each part of the grammar.
use Rattle.std.specs.Prelude.{Bool, ◌||◌, List, codes}
use Rattle.sd_lex.specs.declared.token.Token.{Token}
use Rattle.grammar.specs.Reading.{Outcome, ◌>>=◌, ◌>>◌, give, finish, choose, repeat}
use Rattle.token_reader.specs.Terminals.{is_word, read_quoted, read_word}
use Rattle.constraints.specs.declared.reading.Phrase.{Phrase}
use Rattle.constraints.specs.declared.reading.Phrase.TheVariants.{Reachable, Each, Only, Never}
use Rattle.constraints.specs.declared.reading.Phrase.TheVariants.{One}
use Rattle.constraints.specs.Terminals.{read_bare}

unfoldable pub read_reachable : List Token → Outcome Token Phrase
read_reachable = do
  read_word (codes "REACHABLE")
  function ← read_bare
  read_word (codes "FROM")
  root ← read_bare
  give (Reachable function root)

unfoldable pub read_each : List Token → Outcome Token Phrase
read_each = do
  read_word (codes "EACH")
  function ← read_bare
  read_word (codes "LINKS")
  label ← read_quoted
  read_word (codes "TO")
  target ← read_bare
  give (Each function label.text target)

unfoldable pub read_only : List Token → Outcome Token Phrase
read_only = do
  read_word (codes "ONLY")
  function ← read_bare
  read_word (codes "LINKS")
  label ← read_quoted
  read_word (codes "TO")
  target ← read_bare
  give (Only function label.text target)

unfoldable pub read_never : List Token → Outcome Token Phrase
read_never = do
  read_word (codes "NONE")
  function ← read_bare
  read_word (codes "LINKS")
  label ← read_quoted
  give (Never function label.text)

unfoldable pub read_one : List Token → Outcome Token Phrase
read_one = do
  read_word (codes "ONE")
  function ← read_bare
  read_word (codes "LINKS")
  label ← read_quoted
  give (One function label.text)

unfoldable pub read_phrase : List Token → Outcome Token Phrase
read_phrase =
    choose (is_word (codes "REACHABLE")) read_reachable
    (choose (is_word (codes "EACH")) read_each
    (choose (is_word (codes "ONLY")) read_only
    (choose (is_word (codes "NONE")) read_never read_one)))

abbrev pub begins_phrase : Token → Bool
begins_phrase t =
    is_word (codes "REACHABLE") t ||
    (is_word (codes "EACH") t || (is_word (codes "ONLY") t ||
    (is_word (codes "NONE") t || is_word (codes "ONE") t)))

unfoldable pub read_phrases : List Token → Outcome Token (List Phrase)
read_phrases = do
  phrases ← repeat begins_phrase read_phrase
  finish phrases
