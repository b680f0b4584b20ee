-- The greatest number of edges from one node.
use Rattle.std.proofs.Common.{arith, ◌≡◌, ℕ, ◌+◌, ◌<◌, List, [], ◌∷◌, ◌++◌, sym, ap, ◌∙◌, length, get_or, take, append-nil}
use Rattle.std.specs.Prelude.{Bool, true, false, cond, max, fold, map, filter}
use Rattle.std.proofs.lemmas.List.{map-append}
use Rattle.std.proofs.lemmas.List.Sums.{fold-append}
use Rattle.std.proofs.lemmas.List.Elements.{filter_more}

module _ {X : Type 0} (f : X → ℕ) (p : X → Bool) where
  abbrev greatest : List X → ℕ
  greatest xs = fold max 0 (map f xs)

  pushed : (b : Bool) (xs : List X) (x : X) → greatest (xs ++ cond b (x ∷ []) []) ≡ max (greatest xs) (cond b (f x) 0)
  pushed true xs x = ap (fold max 0) (map-append f xs (x ∷ [])) ∙ fold-append max 0 (map f xs) (f x ∷ [])
  pushed false xs x = ap greatest (append-nil xs) ∙ omega arith

  -- one more
  pub fan_more : (xs : List X) (i : ℕ) (x : X) (most new : ℕ) → i < length xs → x ≡ get_or xs i x → most ≡ fold max 0 (map f (filter p (take i xs))) → new ≡ max most (cond (p x) (f x) 0) → new ≡ fold max 0 (map f (filter p (take (i + 1) xs)))
  fan_more xs i x most new lt is had e =
      e ∙ ap (λ m. max m (cond (p x) (f x) 0)) had ∙ sym (pushed (p x) (filter p (take i xs)) x)
      ∙ sym (ap greatest (filter_more p xs i x lt ∙ ap (λ z. filter p (take i xs) ++ cond (p z) (z ∷ []) []) (sym is)))
