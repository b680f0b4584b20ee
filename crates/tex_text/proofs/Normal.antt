-- Texts that are UTF-8, and others.
use Rattle.std.specs.Prelude.{◌≡◌, List, ℕ, Bool, true, false, chars, encode_utf8_all, if◌then◌else◌}
use Rattle.std.proofs.Common.{refl}
use Rattle.std.specs.Str.{IsUtf8, is_utf8}
use Rattle.std.proofs.lemmas.Str.{IsUtf8-from_is_utf8, is_utf8-from_IsUtf8}
use Rattle.unicode_normalization.specs.Forms.{nfc}
use Rattle.tex_text.specs.Shown.{composed}

pub composed_is : (bytes : List ℕ) → IsUtf8 bytes → composed bytes ≡ encode_utf8_all (nfc (chars bytes))
composed_is bytes text = rw (is_utf8-from_IsUtf8 bytes text) refl

pub not_composed : (bytes : List ℕ) → (IsUtf8 bytes → ⊥) → composed bytes ≡ bytes
not_composed bytes h = by (is_utf8 bytes) refl
  where
    by : (b : Bool) → is_utf8 bytes ≡ b → (if b then encode_utf8_all (nfc (chars bytes)) else bytes) ≡ bytes
    by true is = absurd (h (IsUtf8-from_is_utf8 bytes is))
    by false is = refl
