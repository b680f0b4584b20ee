-- What the reader of a whole data text answers.
use Rattle.std.specs.Prelude.{◌≡◌, ℕ, List, Result, Ok, Err}
use Rattle.std.specs.Global.{Vec}
use Rattle.sd_lex.specs.declared.token.Token.{Token}
use Rattle.grammar.specs.Fault.{FirstFault}
use Rattle.ddl_text.specs.declared.tree.Statement.{Statement}
use Rattle.token_reader.specs.declared.refusal.TokenRefusal.{TokenRefusal}
use Rattle.token_reader.specs.declared.refusal.TokenRefusal.TheVariants.{Expected, NoMemory}
use Rattle.token_reader.specs.Gives.{place, IsReal}
use Rattle.ddl_text.specs.DataText.{file}

-- `Ok` has the statements that the tokens spell. `Expected` has the place of the first token such that nothing that is
-- spelled begins with the tokens up to and with it and goes on with tokens that a text can have.
abbrev pub States : List Token → ℕ → Result (Vec Statement) TokenRefusal → Type 0
States tokens text_end (Ok v) = file tokens v.items
States tokens text_end (Err (Expected at)) =
    (rest : List Token) × FirstFault IsReal file file tokens rest × (at ≡ place text_end rest)
States tokens text_end (Err NoMemory) = Unit {0}

-- What is spelled is the answer, unless it is out of memory.
abbrev pub IsOnly : List Token → Result (Vec Statement) TokenRefusal → Type 0
IsOnly tokens (Ok v) = (statements : List Statement) → file tokens statements → v.items ≡ statements
IsOnly tokens (Err (Expected at)) = (statements : List Statement) → file tokens statements → ⊥
IsOnly tokens (Err NoMemory) = Unit {0}
