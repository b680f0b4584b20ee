-- Flags of terms, one after another.
use Rattle.std.proofs.Common.{◌≡◌, ◌+◌, ◌<◌, ◌≤◌, ◌++◌, ◌∙◌, ℕ, Bool, List, [], ◌∷◌, length, get_or, take, map, sym, ap}
use Rattle.std.proofs.lemmas.List.{take_more, take_all, map-append}

module _ {X : Type 0} (g : X → Bool) (xs : List X) (i : ℕ) where
  pub flags_more : (x : X) (flags new : List Bool) (b : Bool) → i < length xs → x ≡ get_or xs i x → flags ≡ map g (take i xs)
      → new ≡ flags ++ b ∷ [] → b ≡ g x → new ≡ map g (take (i + 1) xs)
  flags_more x flags new b lt is so_far pushed same =
      pushed ∙ ap (λ l. l ++ b ∷ []) so_far ∙ ap (λ y. map g (take i xs) ++ y ∷ []) (same ∙ ap g is)
      ∙ sym (map-append g (take i xs) (get_or xs i x ∷ [])) ∙ ap (map g) (sym (take_more xs i x lt))

  pub flags_all : (flags : List Bool) → length xs ≤ i → flags ≡ map g (take i xs) → flags ≡ map g xs
  flags_all flags le so_far = so_far ∙ ap (map g) (take_all i xs le)
