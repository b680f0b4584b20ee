-- The numbers and places of refusals that all texts of tokens share.
use Rattle.std.specs.Prelude.{◌≡◌, ℕ, Option, Some, None, Result, Ok, Err}
use Rattle.token_reader.specs.declared.refusal.TextRefusal.{TextRefusal}
use Rattle.token_reader.specs.declared.refusal.TextRefusal.TheVariants.{TooLong, BadByte, OpenString, IntOutOfRange}
use Rattle.token_reader.specs.declared.refusal.TextRefusal.TheVariants.{Expected, NoMemory}
use Rattle.data_source.specs.declared.numbered.NumberedFault.{NumberedFault}

-- the number and the place of a refused text, if `expected` is the number of its grammar; none if the reader was out of
-- memory
abbrev pub text_told : ℕ → TextRefusal → Option NumberedFault
text_told expected (BadByte at) = Some (record { number = 21; at = at })
text_told expected (OpenString at) = Some (record { number = 22; at = at })
text_told expected (IntOutOfRange at) = Some (record { number = 23; at = at })
text_told expected (TooLong at) = Some (record { number = 24; at = at })
text_told expected (Expected at) = Some (record { number = expected; at = at })
text_told expected NoMemory = None

-- what a refusal reports; one that reports nothing is out of memory
abbrev pub Tells : {E : Type 0} → Option NumberedFault → Result NumberedFault E → Type 0
Tells told (Ok fault) = told ≡ Some fault
Tells told (Err short) = told ≡ None
