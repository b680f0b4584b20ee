-- What is printed of constraints: a line for each, by its number from 1.
use Rattle.std.specs.Prelude.{◌≡◌, ◌↔◌, ℕ, suc, List, [], ◌∷◌, ◌++◌, Bool, true, false, IsTrue, codes}
use Rattle.std.specs.List.{AllZip, list_all}
use Rattle.std.specs.Fmt.{decimal}
use Rattle.constraint_spec.specs.declared.Constraint.{Constraint}

-- the line's end that says whether a constraint is met
abbrev pub verdict_word : Bool → List ℕ
verdict_word true = codes " met\n"
verdict_word false = codes " broken\n"

-- the line of the constraint of this number
abbrev pub verdict_line : ℕ → Bool → List ℕ
verdict_line number met = decimal number ++ verdict_word met

-- the lines of these constraints, the first of which has this number
abbrev pub verdict_lines : ℕ → List Bool → List ℕ
verdict_lines number [] = []
verdict_lines number (met ∷ rest) = verdict_line number met ++ verdict_lines (suc number) rest

-- The text says of each of the constraints, in order, whether it is met, and `all_met` whether all of them are. `P` is
-- what it is to be met.
pub record IsReport (P : Constraint → Type 0) (constraints : List Constraint) (text : List ℕ)
    (all_met : Bool) : Type 0 where
  pub verdicts : List Bool
  pub decided : AllZip (λ c met. IsTrue met ↔ P c) constraints verdicts
  pub told : text ≡ verdict_lines 1 verdicts
  pub all : all_met ≡ list_all (λ met. met) verdicts
