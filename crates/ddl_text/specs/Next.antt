-- A data text read statement by statement.
use Rattle.std.specs.Prelude.{◌≡◌, ℕ, ◌+◌, List, length}
use Rattle.sd_lex.specs.declared.token.Token.{Token}
use Rattle.sd_lex.specs.declared.closing.Rest.{Rest}
use Rattle.sd_lex.specs.Lexing.{Lexes}
use Rattle.sd_lex.specs.Closing.{IsClosed}
use Rattle.ddl_text.specs.declared.tree.Statement.{Statement}
use Rattle.ddl_text.specs.DataText.{statement}

-- The bytes from `at` on are the tokens up to and with the first `}`, which spell this statement,
-- and then what is left.
abbrev pub IsNext : ℕ → List ℕ → Statement → Rest → Type 0
IsNext at bytes found left =
    (tokens : List Token) × Lexes left.at left.bytes.now at bytes tokens
    × IsClosed tokens left.bytes.now × statement tokens found
    × (left.at + length left.bytes.now ≡ at + length bytes)
