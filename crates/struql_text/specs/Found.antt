-- The program's expressions as plain trees.
use Rattle.std.specs.Prelude.{ℕ}
use Rattle.sd_lex.specs.declared.token.Span.{Span}
use Rattle.rpe.specs.declared.Rpe.{Rpe}
use Rattle.rpe.specs.Reading.{regex_of}
use Rattle.struql_text.specs.declared.expression.Found.{Found}
use Rattle.struql_text.specs.Expression.{Counted}

-- an expression with its place and the count of its signs
abbrev pub counted : Rpe → Span → ℕ → Counted
counted r span n = record { tree = regex_of r; span = span; signs = n }

-- what the reader of expressions has found
abbrev pub found : Found → Counted
found f = counted f.tree f.span f.signs
