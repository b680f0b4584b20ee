-- Refusals of the lexer, of the grammar and of names as refusals of a text of constraints.
use Rattle.sd_lex.specs.declared.refusal.LexRefusal.{LexRefusal}
use Rattle.token_reader.specs.declared.refusal.TokenRefusal.{TokenRefusal}
use Rattle.token_reader.specs.declared.refusal.TextRefusal.TheVariants.{NoMemory}
use Rattle.token_reader.specs.Refused as text
use Rattle.constraints.specs.declared.refusal.NameFault.{NameFault}
use Rattle.constraints.specs.declared.refusal.NameFault.TheVariants as names
use Rattle.constraints.specs.declared.refusal.ConstraintRefusal.{ConstraintRefusal}
use Rattle.constraints.specs.declared.refusal.ConstraintRefusal.TheVariants.{Text, UnknownFunction, RootHasArguments}

-- a refusal of the lexer
abbrev pub of_lexer : LexRefusal → ConstraintRefusal
of_lexer e = Text (text.of_lexer e)

-- a refusal of the grammar
abbrev pub of_tokens : TokenRefusal → ConstraintRefusal
of_tokens e = Text (text.of_tokens e)

-- a fault of a name
abbrev pub of_fault : NameFault → ConstraintRefusal
of_fault (names.Unknown at) = UnknownFunction at
of_fault (names.HasArguments at) = RootHasArguments at

-- the reader was out of memory
abbrev pub out_of_memory : ConstraintRefusal
out_of_memory = Text NoMemory
