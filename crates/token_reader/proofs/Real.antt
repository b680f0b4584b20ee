-- The tokens of a text are tokens that a text can have.
use Rattle.std.proofs.Common.{ℕ, List, sym, subst, Ok}
use Rattle.sd_lex.specs.declared.token.Token.{Token}
use Rattle.sd_lex.specs.Lexing.{Lexes, here, blank, comment, token, IsTextOrFault}
use Rattle.grammar.specs.Fault.{Every}
use Rattle.token_reader.specs.Gives.{IsReal}

lexed_real : {place : ℕ} {rest : List ℕ} {at : ℕ} {bytes : List ℕ} {tokens : List Token} → Lexes place rest at bytes tokens → Every IsReal tokens
lexed_real (here e f z) = subst (Every IsReal) (sym f) tt
lexed_real (blank b later e f g) = lexed_real g
lexed_real (comment line later e f g k) = lexed_real k
lexed_real (token text later t others e f g k) = subst (Every IsReal) (sym g) ((text, f.spelled), lexed_real k)

pub text_real : (limit : ℕ) (bytes : List ℕ) (tokens : List Token) → IsTextOrFault limit bytes (Ok tokens) → Every IsReal tokens
text_real limit bytes tokens h = lexed_real h.1.1
