-- The grammar of constraints: which tokens spell which constraints.
--
--   constraints := { "REACHABLE" Name "FROM" Name | "EACH" Name "LINKS" Quoted "TO" Name
--                  | "ONLY" Name "LINKS" Quoted "TO" Name | "NONE" Name "LINKS" Quoted | "ONE" Name "LINKS" Quoted }
--
-- Each Name is a function's, and is bare. The words are in upper case.
use Rattle.std.specs.Prelude.{List, codes}
use Rattle.sd_lex.specs.declared.token.Token.{Token}
use Rattle.grammar.specs.Grammar.{nothing, ◌>>=◌, ◌>>◌, either, many}
use Rattle.token_reader.specs.Terminals.{quoted, word}
use Rattle.constraint_spec.specs.declared.Constraint.{Constraint}
use Rattle.constraint_spec.specs.declared.Constraint.TheVariants as constraint
use Rattle.constraints.specs.declared.reading.Phrase.{Phrase}
use Rattle.constraints.specs.declared.reading.Phrase.TheVariants.{Reachable, Each, Only, Never}
use Rattle.constraints.specs.declared.reading.Phrase.TheVariants.{One}
use Rattle.constraints.specs.Terminals.{bare}

abbrev pub reachable : List Token → Phrase → Type 0
reachable = do
  word (codes "REACHABLE")
  function ← bare
  word (codes "FROM")
  root ← bare
  nothing (Reachable function root)

abbrev pub each : List Token → Phrase → Type 0
each = do
  word (codes "EACH")
  function ← bare
  word (codes "LINKS")
  label ← quoted
  word (codes "TO")
  target ← bare
  nothing (Each function label.text target)

abbrev pub only : List Token → Phrase → Type 0
only = do
  word (codes "ONLY")
  function ← bare
  word (codes "LINKS")
  label ← quoted
  word (codes "TO")
  target ← bare
  nothing (Only function label.text target)

abbrev pub never : List Token → Phrase → Type 0
never = do
  word (codes "NONE")
  function ← bare
  word (codes "LINKS")
  label ← quoted
  nothing (Never function label.text)

abbrev pub one_link : List Token → Phrase → Type 0
one_link = do
  word (codes "ONE")
  function ← bare
  word (codes "LINKS")
  label ← quoted
  nothing (One function label.text)

abbrev pub phrase : List Token → Phrase → Type 0
phrase = either reachable (either each (either only (either never one_link)))

abbrev pub phrases : List Token → List Phrase → Type 0
phrases = many phrase

-- the constraint that is written so
abbrev pub constraint_of : Phrase → Constraint
constraint_of (Reachable f root) = constraint.Reachable f.text root.text
constraint_of (Each f label target) = constraint.Each f.text label target.text
constraint_of (Only f label target) = constraint.Only f.text label target.text
constraint_of (Never f label) = constraint.Never f.text label
constraint_of (One f label) = constraint.One f.text label
