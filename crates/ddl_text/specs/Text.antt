-- What the reader of the bytes of a data text answers.
use Rattle.std.specs.Prelude.{◌≡◌, ℕ, List, length, Result, Ok, Err}
use Rattle.std.specs.Global.{Vec}
use Rattle.sd_lex.specs.declared.token.Token.{Token}
use Rattle.sd_lex.specs.declared.refusal.LexRefusal.TheVariants as lexer
use Rattle.sd_lex.specs.Lexing.{IsTextOrFault}
use Rattle.grammar.specs.Fault.{FirstFault}
use Rattle.token_reader.specs.Gives.{place, IsReal}
use Rattle.ddl_text.specs.declared.tree.Statement.{Statement}
use Rattle.token_reader.specs.declared.refusal.TextRefusal.{TextRefusal}
use Rattle.token_reader.specs.declared.refusal.TextRefusal.TheVariants.{TooLong, BadByte, OpenString, IntOutOfRange, Expected, NoMemory}
use Rattle.ddl_text.specs.DataText.{file}

-- `Ok` has the statements that the text's tokens spell. A text that has no tokens has the lexer's fault. `Expected` has the
-- place of the first token such that nothing that is spelled begins with the tokens up to and with it.
abbrev pub TextStates : ℕ → List ℕ → Result (Vec Statement) TextRefusal → Type 0
TextStates limit bytes (Ok v) =
    (tokens : List Token) × IsTextOrFault limit bytes (Ok tokens) × file tokens v.items
TextStates limit bytes (Err (TooLong at)) = IsTextOrFault limit bytes (Err (lexer.TooLong at))
TextStates limit bytes (Err (BadByte at)) = IsTextOrFault limit bytes (Err (lexer.BadByte at))
TextStates limit bytes (Err (OpenString at)) = IsTextOrFault limit bytes (Err (lexer.OpenString at))
TextStates limit bytes (Err (IntOutOfRange at)) =
    IsTextOrFault limit bytes (Err (lexer.IntOutOfRange at))
TextStates limit bytes (Err (Expected at)) =
    (tokens : List Token) × IsTextOrFault limit bytes (Ok tokens) × (rest : List Token)
    × FirstFault IsReal file file tokens rest × (at ≡ place (length bytes) rest)
TextStates limit bytes (Err NoMemory) = Unit {0}

-- What a text spells is the answer, unless it is out of memory.
abbrev pub TextGives : List Statement → Result (Vec Statement) TextRefusal → Type 0
TextGives statements (Ok v) = v.items ≡ statements
TextGives statements (Err (TooLong at)) = ⊥
TextGives statements (Err (BadByte at)) = ⊥
TextGives statements (Err (OpenString at)) = ⊥
TextGives statements (Err (IntOutOfRange at)) = ⊥
TextGives statements (Err (Expected at)) = ⊥
TextGives statements (Err NoMemory) = Unit {0}
