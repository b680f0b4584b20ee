-- What the reader of a script's tokens answers.
use Rattle.std.specs.Prelude.{◌≡◌, ℕ, List, Result, Ok, Err}
use Rattle.std.specs.Global.{Vec}
use Rattle.sd_lex.specs.declared.token.Token.{Token}
use Rattle.grammar.specs.Fault.{FirstFault}
use Rattle.token_reader.specs.Gives.{place, IsReal}
use Rattle.happenings.specs.declared.event.WireEvent.{WireEvent}
use Rattle.token_reader.specs.declared.refusal.TokenRefusal.{TokenRefusal}
use Rattle.token_reader.specs.declared.refusal.TokenRefusal.TheVariants.{Expected, NoMemory}
use Rattle.script_reader.specs.ScriptText.{script}

-- `Ok` has the phrases that the tokens spell. `Expected` has the place of the first token such that nothing that is
-- spelled begins with the tokens up to and with it and goes on with tokens that a text can have.
abbrev pub Spells : List Token → ℕ → Result (Vec WireEvent) TokenRefusal → Type 0
Spells tokens text_end (Ok v) = script tokens v.items
Spells tokens text_end (Err (Expected at)) =
    (rest : List Token) × FirstFault IsReal script script tokens rest × (at ≡ place text_end rest)
Spells tokens text_end (Err NoMemory) = Unit {0}
