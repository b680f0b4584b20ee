-- A refused text spells no statements.
use Rattle.std.proofs.Common.{List, Ok, Err}
use Rattle.sd_lex.specs.declared.token.Token.{Token}
use Rattle.sd_lex.specs.declared.refusal.LexRefusal.{LexRefusal}
use Rattle.sd_lex.specs.declared.refusal.LexRefusal.TheVariants as lexer
use Rattle.sd_lex.specs.Lexing.{GivesTokens}
use Rattle.ddl_text.specs.declared.tree.Statement.{Statement}
use Rattle.token_reader.specs.declared.refusal.TokenRefusal.{TokenRefusal}
use Rattle.token_reader.specs.declared.refusal.TokenRefusal.TheVariants as grammar
use Rattle.ddl_text.specs.DataText.{file}
use Rattle.token_reader.specs.Refused.{of_lexer, of_tokens}
use Rattle.ddl_text.specs.Stated.{IsOnly}
use Rattle.ddl_text.specs.Text.{TextGives}

pub no_tokens : (e : LexRefusal) (tokens : List Token) (found : List Statement) → GivesTokens {A = List Token} (Ok tokens) (Err e) → TextGives found (Err (of_lexer e))
no_tokens (lexer.TooLong at) tokens found h = absurd cc
no_tokens (lexer.BadByte at) tokens found h = absurd cc
no_tokens (lexer.OpenString at) tokens found h = absurd cc
no_tokens (lexer.IntOutOfRange at) tokens found h = absurd cc
no_tokens lexer.NoMemory tokens found h = tt

pub not_spelled : (e : TokenRefusal) (tokens : List Token) (found : List Statement) → IsOnly tokens (Err e) → file tokens found → TextGives found (Err (of_tokens e))
not_spelled (grammar.Expected at) tokens found only f = only found f
not_spelled grammar.NoMemory tokens found only f = tt
