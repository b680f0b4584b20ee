-- Pairs of two lists, one after another.
use Rattle.std.proofs.Common.{arith, ◌≡◌, ℕ, ◌+◌, ◌<◌, List, [], ◌∷◌, ◌++◌, sym, ap, subst, ◌∙◌, length, get_or, take}
use Rattle.std.specs.List.{AllZip}
use Rattle.std.proofs.lemmas.List.{take_more}

module _ {A B : Type 0} (R : A → B → Type 0) where
  zip_push : (xs : List A) (ys : List B) (x : A) (y : B) → AllZip R xs ys → R x y → AllZip R (xs ++ x ∷ []) (ys ++ y ∷ [])
  zip_push [] [] x y h r = (r, tt)
  zip_push [] (b ∷ ys) x y h r = absurd h
  zip_push (a ∷ xs) [] x y h r = absurd h
  zip_push (a ∷ xs) (b ∷ ys) x y h r = (h.0, zip_push xs ys x y h.1 r)

  -- a loop's step
  pub zip_more : (xs : List A) (i : ℕ) (x : A) (ys new : List B) (y : B) → i < length xs → x ≡ get_or xs i x → new ≡ ys ++ y ∷ [] → AllZip R (take i xs) ys → R x y → AllZip R (take (i + 1) xs) new
  zip_more xs i x ys new y l is longer h r =
      let front : take (i + 1) xs ≡ take i xs ++ x ∷ [] = take_more xs i x l ∙ ap (λ (z : A). take i xs ++ z ∷ []) (sym is) in
      subst (λ (zs : List A). AllZip R zs new) (sym front)
      (subst (λ (ws : List B). AllZip R (take i xs ++ x ∷ []) ws) (sym longer) (zip_push (take i xs) ys x y h r))

  -- the only pair
  pub zip_only : (x : A) (ys : List B) (y : B) → AllZip R (x ∷ []) ys → y ≡ get_or ys 0 y → R x y
  zip_only x [] y h is = absurd h
  zip_only x (b ∷ []) y h is = subst (R x) (sym is) h.0
  zip_only x (b ∷ c ∷ ys) y h is = absurd h.1

  pub zip_one : (x : A) (ys : List B) → AllZip R (x ∷ []) ys → 0 < length ys
  zip_one x [] h = absurd h
  zip_one x (b ∷ ys) h = omega arith

  pub zip_as : (S : A → B → Type 0) → ((x : A) (y : B) → R x y → S x y) → (xs : List A) (ys : List B) → AllZip R xs ys → AllZip S xs ys
  zip_as S f [] [] h = tt
  zip_as S f [] (b ∷ ys) h = absurd h
  zip_as S f (a ∷ xs) [] h = absurd h
  zip_as S f (a ∷ xs) (b ∷ ys) h = (f a b h.0, zip_as S f xs ys h.1)
