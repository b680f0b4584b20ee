-- The usage of the program, once the lines of all commands are in it.
use Rattle.std.proofs.Common.{◌≡◌, ◌∙◌, ℕ, ◌≤◌, List, ◌++◌, take, length, ap, append_assoc}
use Rattle.std.specs.List.{flat_map}
use Rattle.std.proofs.lemmas.List.{take_all}
use Rattle.command_spec.specs.declared.rows.CommandName.{CommandName}
use Rattle.command_spec.specs.Rows.{row, names}
use Rattle.command_help.specs.Texts.{program_head, program_end, program_usage}

abbrev lines : List CommandName → List ℕ
lines xs = flat_map (λ name. (row name).summary) xs

pub usage_is : (xs : List CommandName) (i : ℕ) (text whole : List ℕ) → whole ≡ text ++ program_end → text ≡ program_head ++ lines (take i xs) → length xs ≤ i → xs ≡ names → whole ≡ program_usage
usage_is xs i text whole extended is least same =
    extended ∙ ap (λ (x : List ℕ). x ++ program_end) (is ∙ ap (λ (ys : List CommandName). program_head ++ lines ys) (take_all i xs least ∙ same))
    ∙ append_assoc program_head (lines names) program_end
