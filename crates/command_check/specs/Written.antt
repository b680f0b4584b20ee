-- What is found of a constraint, as the engine keeps it, and its lines.
use Rattle.std.specs.Prelude.{ℕ, List}
use Rattle.query_spec.specs.Query.{Body}
use Rattle.constraint_spec.specs.declared.Constraint.{Constraint}
use Rattle.certificate_text.specs.Lines.{unknown_text}
use Rattle.certificate_text.specs.Written.{yes_text_by}
use Rattle.command_check.specs.Told as plain
use Rattle.command_check.specs.Told.{no_text}
use Rattle.command_check.specs.declared.finding.CheckAnswer.{CheckAnswer}
use Rattle.command_check.specs.declared.finding.CheckAnswer.TheVariants.{Yes, No, Unknown}

-- what is found
abbrev pub found_in : CheckAnswer → plain.CheckAnswer
found_in (Yes x) = plain.yes x.now
found_in (No G) = plain.no G
found_in Unknown = plain.unknown

-- its lines on a query's blocks with these paths
abbrev pub text_by
    : ℕ → List (List ℕ) → List Body → ℕ → Constraint → plain.CheckAnswer → List ℕ
text_by version paths bodies number c (plain.yes x) =
    yes_text_by version paths bodies number c x
text_by version paths bodies number c (plain.no G) = no_text number G
text_by version paths bodies number c plain.unknown = unknown_text number
