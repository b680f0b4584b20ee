-- What it means that a text has one answer.
use Rattle.std.specs.Prelude.{◌≡◌, ℕ, List, Result, Ok}
use Rattle.sd_lex.specs.declared.token.Token.{Token}
use Rattle.sd_lex.specs.declared.refusal.LexRefusal.{LexRefusal}
use Rattle.sd_lex.specs.Lexing.{IsTextOrFault}
use Rattle.grammar.specs.Fault.{Every}
use Rattle.token_reader.specs.Gives.{IsReal}

-- two answers to the same bytes within the same limit are equal
abbrev pub HasOneTokenList : ℕ → List ℕ → Type 0
HasOneTokenList limit bytes =
    (r s : Result (List Token) LexRefusal) → IsTextOrFault limit bytes r
    → IsTextOrFault limit bytes s → r ≡ s

-- each token of the text is one that a text can have
abbrev pub HasRealTokens : ℕ → List ℕ → Type 0
HasRealTokens limit bytes =
    (tokens : List Token) → IsTextOrFault limit bytes (Ok tokens) → Every IsReal tokens
