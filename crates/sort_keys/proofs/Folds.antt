-- A text is folded where it is UTF-8.
use Rattle.std.proofs.Common.{◌≡◌, List, ℕ, true, false, refl}
use Rattle.std.specs.Str.{IsUtf8, is_utf8}
use Rattle.std.proofs.lemmas.Str.{IsUtf8-from_is_utf8, is_utf8-from_IsUtf8}
use Rattle.function_spec.specs.Folding.{fold}
use Rattle.key_spec.specs.Keys.{folded_text}

pub folded_utf8 : (s t : List ℕ) → IsUtf8 s → t ≡ fold s → t ≡ folded_text s
folded_utf8 s t u e = rw (is_utf8-from_IsUtf8 s u) e

pub not_folded : (s : List ℕ) → (IsUtf8 s → ⊥) → s ≡ folded_text s
not_folded s n =
    elim (is_utf8 s) as (λ b. is_utf8 s ≡ b → s ≡ folded_text s) [
      | true ↦ λ e. absurd (n (IsUtf8-from_is_utf8 s e))
      | false ↦ λ e. rw e refl
    ] refl
