-- Bytes that are UTF-8, and others.
use Rattle.std.proofs.Common.{refl, ap, ◌≡◌, List, ℕ}
use Rattle.std.specs.Prelude.{true, false, Some, None}
use Rattle.std.specs.Str.{IsUtf8, is_utf8}
use Rattle.std.proofs.lemmas.Str.{IsUtf8-from_is_utf8, is_utf8-from_IsUtf8}
use Rattle.value_texts.specs.Texts.{as_utf8}

pub some_utf8 : (s t : List ℕ) → IsUtf8 s → t ≡ s → Some t ≡ as_utf8 s
some_utf8 s t u e = rw (is_utf8-from_IsUtf8 s u) (ap Some e)

pub none_utf8 : (s : List ℕ) → (IsUtf8 s → ⊥) → None ≡ as_utf8 s
none_utf8 s n =
    elim (is_utf8 s) as (λ b. is_utf8 s ≡ b → None ≡ as_utf8 s) [
      | true ↦ λ e. absurd (n (IsUtf8-from_is_utf8 s e))
      | false ↦ λ e. rw e refl
    ] refl
