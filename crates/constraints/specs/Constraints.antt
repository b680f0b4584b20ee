-- What the reader of a text of constraints answers, and that a text has one answer.
use Rattle.std.specs.Prelude.{◌≡◌, ℕ, List, length, map, Some, None, Result, Ok, Err, ⊤}
use Rattle.std.specs.Global.{Vec}
use Rattle.sd_lex.specs.declared.token.Token.{Token}
use Rattle.sd_lex.specs.declared.refusal.LexRefusal.TheVariants as lexer
use Rattle.sd_lex.specs.Lexing.{IsTextOrFault}
use Rattle.grammar.specs.Fault.{FirstFault}
use Rattle.token_reader.specs.Gives.{place, IsReal}
use Rattle.token_reader.specs.declared.refusal.TextRefusal.TheVariants.{TooLong, BadByte, OpenString, IntOutOfRange, Expected, NoMemory}
use Rattle.query_spec.specs.Query.{Query}
use Rattle.constraint_spec.specs.declared.Constraint.{Constraint}
use Rattle.constraints.specs.declared.reading.Phrase.{Phrase}
use Rattle.constraints.specs.declared.refusal.NameFault.{NameFault}
use Rattle.constraints.specs.declared.refusal.NameFault.TheVariants.{Unknown, HasArguments}
use Rattle.constraints.specs.declared.refusal.ConstraintRefusal.{ConstraintRefusal}
use Rattle.constraints.specs.declared.refusal.ConstraintRefusal.TheVariants.{Text, UnknownFunction, RootHasArguments}
use Rattle.constraints.specs.ConstraintText.{phrases, constraint_of}
use Rattle.constraints.specs.Names.{FirstFaulty}

-- The text's tokens spell these phrases.
abbrev pub IsSpelled : ℕ → List ℕ → List Phrase → Type 0
IsSpelled limit bytes written =
    (tokens : List Token) × IsTextOrFault limit bytes (Ok tokens) × phrases tokens written

-- The text's tokens spell these constraints, and no function that they name has a fault.
abbrev pub AreConstraints : Query → ℕ → List ℕ → List Constraint → Type 0
AreConstraints q limit bytes found =
    (written : List Phrase) × IsSpelled limit bytes written × FirstFaulty q written None
    × (found ≡ map constraint_of written)

-- This is the place of the first token such that no constraints begin with the tokens up to and with it, or the text's
-- end where more tokens are wanted.
abbrev pub IsFaultAt : ℕ → List ℕ → ℕ → Type 0
IsFaultAt limit bytes at =
    (tokens : List Token) × IsTextOrFault limit bytes (Ok tokens) × (rest : List Token)
    × FirstFault IsReal phrases phrases tokens rest × (at ≡ place (length bytes) rest)

-- The text's tokens spell constraints, and this is the first fault of the functions that they name.
abbrev pub IsNameFault : Query → ℕ → List ℕ → NameFault → Type 0
IsNameFault q limit bytes fault =
    (written : List Phrase) × IsSpelled limit bytes written × FirstFaulty q written (Some fault)

-- `Ok` has the constraints of the text. A text that has no tokens has the lexer's fault, one whose tokens spell no
-- constraints has the first fault of the grammar, and one that names functions wrongly has the first fault of its names.
abbrev pub Reads : Query → ℕ → List ℕ → Result (List Constraint) ConstraintRefusal → Type 0
Reads q limit bytes (Ok found) = AreConstraints q limit bytes found
Reads q limit bytes (Err (Text (TooLong at))) =
    IsTextOrFault limit bytes (Err (lexer.TooLong at))
Reads q limit bytes (Err (Text (BadByte at))) =
    IsTextOrFault limit bytes (Err (lexer.BadByte at))
Reads q limit bytes (Err (Text (OpenString at))) =
    IsTextOrFault limit bytes (Err (lexer.OpenString at))
Reads q limit bytes (Err (Text (IntOutOfRange at))) =
    IsTextOrFault limit bytes (Err (lexer.IntOutOfRange at))
Reads q limit bytes (Err (Text (Expected at))) = IsFaultAt limit bytes at
Reads q limit bytes (Err (UnknownFunction at)) = IsNameFault q limit bytes (Unknown at)
Reads q limit bytes (Err (RootHasArguments at)) = IsNameFault q limit bytes (HasArguments at)
Reads q limit bytes (Err (Text NoMemory)) = Unit {0}

-- an answer as a list of constraints
abbrev pub told
    : Result (Vec Constraint) ConstraintRefusal → Result (List Constraint) ConstraintRefusal
told (Ok v) = Ok v.items
told (Err e) = Err e

-- any answer but out of memory
abbrev pub IsSettled : Result (List Constraint) ConstraintRefusal → Type 0
IsSettled (Err (Text NoMemory)) = ⊥
IsSettled answer = ⊤

-- two such answers to the same bytes are equal
abbrev pub HasOneAnswer : Query → ℕ → List ℕ → Type 0
HasOneAnswer q limit bytes =
    (r s : Result (List Constraint) ConstraintRefusal) → Reads q limit bytes r
    → Reads q limit bytes s → IsSettled r → IsSettled s → r ≡ s
