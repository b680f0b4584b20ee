-- What the reader of a constraints' tokens answers.
use Rattle.std.specs.Prelude.{◌≡◌, ℕ, List, Result, Ok, Err}
use Rattle.std.specs.Global.{Vec}
use Rattle.sd_lex.specs.declared.token.Token.{Token}
use Rattle.grammar.specs.Fault.{FirstFault}
use Rattle.token_reader.specs.Gives.{place, IsReal}
use Rattle.constraints.specs.declared.reading.Phrase.{Phrase}
use Rattle.token_reader.specs.declared.refusal.TokenRefusal.{TokenRefusal}
use Rattle.token_reader.specs.declared.refusal.TokenRefusal.TheVariants.{Expected, NoMemory}
use Rattle.constraints.specs.ConstraintText.{phrases}

-- `Ok` has the constraints that the tokens spell. `Expected` has the place of the first token such that nothing that is
-- spelled begins with the tokens up to and with it and goes on with tokens that a text can have.
abbrev pub Spells : List Token → ℕ → Result (Vec Phrase) TokenRefusal → Type 0
Spells tokens text_end (Ok v) = phrases tokens v.items
Spells tokens text_end (Err (Expected at)) =
    (rest : List Token) × FirstFault IsReal phrases phrases tokens rest
    × (at ≡ place text_end rest)
Spells tokens text_end (Err NoMemory) = Unit {0}
