-- The line of a command's name and the words after it, of which `clap` reads the command.
use Rattle.std.proofs.Common.{◌≡◌, ◌∙◌, ◌≤◌, Bool, true, refl, ap, ap₂, arith, List, [], ◌∷◌, ◌++◌, length, Option, None}
use Rattle.std.specs.List.{list_all}
use Rattle.std.specs.Borrow.{Bor}
use Rattle.clap.specs.Walk.{Text, texts}
use Rattle.command_spec.specs.declared.rows.CommandName.{CommandName}
use Rattle.command_spec.specs.declared.rows.Flags.{Flags}
use Rattle.command_spec.specs.Options.{parts_of}
use Rattle.command_spec.specs.Rows.{row, lenient_flag}
use Rattle.command_spec.specs.Words.{is_word, help_command, named_command, take_flag}
use Rattle.command_words.specs.Parsed as parsed
use Rattle.command_words.specs.Parsed.{IsTaken}
use Rattle.command_words.proofs.FlagWords.{rest_words}
use Rattle.command_words.proofs.Whole.{are_words, by_name}

pub line_command : (name : CommandName) (flags : Flags) (line later : List Text) → line ≡ (row name).name ∷ later → list_all is_word later ≡ true
    → parsed.command name flags line ≡ named_command name flags (parts_of None later)
line_command name flags line later is all = ap (parsed.command name flags) is ∙ by_name name flags later (are_words later all)

-- the line as it is put together
pub line_is : (start pushed whole line words : List (Bor Text)) (word : Bor Text) (name : CommandName) → start ≡ [] → pushed ≡ start ++ word ∷ [] → whole ≡ pushed ++ words → line ≡ whole → word.now ≡ (row name).name
    → texts line ≡ (row name).name ∷ texts words
line_is start pushed whole line words word name none push extend same is =
    ap texts (same ∙ extend ∙ ap (λ (xs : List (Bor Text)). xs ++ words) (push ∙ ap (λ (xs : List (Bor Text)). xs ++ word ∷ []) none)) ∙ ap (λ x. x ∷ texts words) is

-- `help` has one word at most
pub no_help : (words : List (Bor Text)) → 2 ≤ length words → None ≡ help_command (texts words)
no_help [] two = absurd (omega (arith, two))
no_help (w ∷ []) two = absurd (omega (arith, two))
no_help (w ∷ v ∷ ws) two = refl

-- ---- the flags are taken out

module _ (name : CommandName) (words passed first read second : List (Bor Text)) (lenient own : Bool) (common its : Option Text)
    (is_common : common ≡ lenient_flag (row name)) (is_own : its ≡ (row name).flag)
    (taken : IsTaken lenient first (take_flag common (texts words))) (pass : passed ≡ first)
    (own_taken : IsTaken own second (take_flag its (texts passed))) (same : read ≡ second) where
  abbrev rest : List Text
  rest = (take_flag (lenient_flag (row name)) (texts words)).rest

  left : texts passed ≡ rest
  left = ap texts pass ∙ taken.1 ∙ ap (λ flag. (take_flag flag (texts words)).rest) is_common

  left_words : texts read ≡ (take_flag (row name).flag rest).rest
  left_words = ap texts same ∙ own_taken.1 ∙ ap₂ (λ flag ws. (take_flag flag ws).rest) is_own left

  pub words_left : list_all is_word (texts words) ≡ true → list_all is_word (texts read) ≡ true
  words_left all = ap (list_all is_word) left_words ∙ rest_words (row name).flag rest (rest_words (lenient_flag (row name)) (texts words) all)
