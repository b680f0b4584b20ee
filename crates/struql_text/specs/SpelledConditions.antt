-- What holds of the tokens where a condition was read.
use Rattle.std.specs.Prelude.{◌≡◌, ℕ, List, ◌++◌}
use Rattle.sd_lex.specs.declared.token.Token.{Token}
use Rattle.struql_ast.specs.Written.{Condition}
use Rattle.grammar.specs.Reading.{Read}
use Rattle.struql_text.specs.Expression.{expression_within}
use Rattle.struql_text.specs.Grammar.{condition}
use Rattle.struql_text.specs.Reading.{read_condition}

-- a condition is read exactly where tokens in front spell it within the limits
abbrev pub IsReadAsSpelled : ℕ → List Token → Type 0
IsReadAsSpelled version tokens =
    ((value : Condition) (rest : List Token) → read_condition version tokens ≡ Read value rest
    → (front : List Token) × (tokens ≡ front ++ rest)
    × condition version expression_within front value)
    × ((front : List Token) (value : Condition) (rest : List Token) → tokens ≡ front ++ rest
    → condition version expression_within front value
    → read_condition version tokens ≡ Read value rest)
