-- What the reader of an edit's tokens answers.
use Rattle.std.specs.Prelude.{◌≡◌, ℕ, List, Result, Ok, Err}
use Rattle.sd_lex.specs.declared.token.Token.{Token}
use Rattle.grammar.specs.Fault.{FirstFault}
use Rattle.token_reader.specs.Gives.{place, IsReal}
use Rattle.edit_spec.specs.declared.Edit.{Edit}
use Rattle.token_reader.specs.declared.refusal.TokenRefusal.{TokenRefusal}
use Rattle.token_reader.specs.declared.refusal.TokenRefusal.TheVariants.{Expected, NoMemory}
use Rattle.edit_reader.specs.EditText.{edit}

-- `Ok` has the edit that the tokens spell. `Expected` has the place of the first token such that no edit begins with the
-- tokens up to and with it and goes on with tokens that a text can have.
abbrev pub Spells : List Token → ℕ → Result Edit TokenRefusal → Type 0
Spells tokens text_end (Ok e) = edit tokens e
Spells tokens text_end (Err (Expected at)) =
    (rest : List Token) × FirstFault IsReal edit edit tokens rest × (at ≡ place text_end rest)
Spells tokens text_end (Err NoMemory) = Unit {0}
