-- Refusals of the lexer as refusals of a query's text.
use Rattle.sd_lex.specs.declared.refusal.LexRefusal.{LexRefusal}
use Rattle.token_reader.specs.Refused as text
use Rattle.struql_parse.specs.declared.refusal.ParseRefusal.{ParseRefusal}
use Rattle.struql_parse.specs.declared.refusal.ParseRefusal.TheVariants.{Text}

-- a refusal of the lexer
abbrev pub of_lexer : LexRefusal → ParseRefusal
of_lexer e = Text (text.of_lexer e)
