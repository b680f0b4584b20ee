-- Refusals of the lexer and of a grammar as refusals of a text.
use Rattle.sd_lex.specs.declared.refusal.LexRefusal.{LexRefusal}
use Rattle.sd_lex.specs.declared.refusal.LexRefusal.TheVariants as lexer
use Rattle.token_reader.specs.declared.refusal.TokenRefusal.{TokenRefusal}
use Rattle.token_reader.specs.declared.refusal.TokenRefusal.TheVariants as grammar
use Rattle.token_reader.specs.declared.refusal.TextRefusal.{TextRefusal}
use Rattle.token_reader.specs.declared.refusal.TextRefusal.TheVariants.{TooLong, BadByte, OpenString, IntOutOfRange, Expected, NoMemory}

-- a refusal of the lexer
abbrev pub of_lexer : LexRefusal → TextRefusal
of_lexer (lexer.TooLong at) = TooLong at
of_lexer (lexer.BadByte at) = BadByte at
of_lexer (lexer.OpenString at) = OpenString at
of_lexer (lexer.IntOutOfRange at) = IntOutOfRange at
of_lexer lexer.NoMemory = NoMemory

-- a refusal of the grammar
abbrev pub of_tokens : TokenRefusal → TextRefusal
of_tokens (grammar.Expected at) = Expected at
of_tokens grammar.NoMemory = NoMemory
