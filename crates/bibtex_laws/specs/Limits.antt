-- The bytes of a text, and the words that pass a limit.
use Rattle.std.specs.Prelude.{◌≡◌, ◌⊎◌, ◌<◌, ℕ, Bool, true, false, List, [], ◌∷◌}
use Rattle.grammar.specs.Fault.{Every}
use Rattle.grammar.specs.Reading.{starts}
use Rattle.bibtex_spec.specs.Macros.{MacroTexts}
use Rattle.bibtex_spec.specs.Bytes.{is_name_byte, begins_name}

abbrev pub IsByte : ℕ → Type 0
IsByte b = b < 256

-- no byte
abbrev pub none : ℕ → Bool
none b = false

-- A brace, whatever stands behind it; or a name, behind which none of a name's bytes stands.
abbrev pub IsLimit : MacroTexts → List ℕ → (ℕ → Bool) → Type 0
IsLimit macros word stops =
    ((word ≡ 123 ∷ []) × (stops ≡ none))
    ⊎ ((starts (begins_name macros.stand) word ≡ true)
    × Every (λ b. is_name_byte macros.stand b ≡ true) word × (stops ≡ is_name_byte macros.stand))
