-- The value of bytes.
use Rattle.std.specs.Prelude.{◌≡◌, ℕ, List, Option, Some, None, Bool, true, false, map, if◌then◌else◌}
use Rattle.std.proofs.Common.{refl, sym, ap}
use Rattle.std.specs.List.{list_any}
use Rattle.std.specs.Str.{IsUtf8, is_utf8}
use Rattle.std.proofs.lemmas.Str.{IsUtf8-from_is_utf8, is_utf8-from_IsUtf8}
use Rattle.json.specs.Lex.{tokens}
use Rattle.serde_json.specs.Data.{Data}
use Rattle.serde_json.specs.Read.{read}
use Rattle.json_source.specs.Document.{is_bad, spelled_token, value_of_tokens, spelled_value, if_utf8}

pub value_some : (bs : List ℕ) (d : Data) → IsUtf8 bs → read bs ≡ Some d → if_utf8 read bs ≡ Some d
value_some bs d text h = rw (is_utf8-from_IsUtf8 bs text) h

pub no_value : (value : List ℕ → Option Data) (bs : List ℕ) → (IsUtf8 bs → value bs ≡ None) → if_utf8 value bs ≡ None
no_value value bs h = by (is_utf8 bs) refl
  where
    by : (b : Bool) → is_utf8 bs ≡ b → (if b then value bs else None) ≡ None
    by true is = h (IsUtf8-from_is_utf8 bs is)
    by false is = refl

pub value_none : (bs : List ℕ) → (IsUtf8 bs → read bs ≡ None) → if_utf8 read bs ≡ None
value_none bs h = no_value read bs h

-- the value of the text that is written of the tokens
pub spelled_is : (text bytes : List ℕ) → IsUtf8 text → IsUtf8 bytes → list_any is_bad (tokens text) ≡ false
    → tokens bytes ≡ map spelled_token (tokens text) → if_utf8 spelled_value text ≡ if_utf8 read bytes
spelled_is text bytes h k good same =
    rw (is_utf8-from_IsUtf8 text h, is_utf8-from_IsUtf8 bytes k, good) (ap value_of_tokens (sym same))
