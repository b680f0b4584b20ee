-- What is found first in a list that is looked through.
use Rattle.std.proofs.Common.{◌≡◌, ℕ, ◌+◌, ◌<◌, List, [], ◌∷◌, ◌++◌, refl, sym, ap, ◌∙◌, length, get_or, take, drop}
use Rattle.std.specs.Prelude.{Bool, ◌||◌, Option, Some, None, map}
use Rattle.std.specs.Option.{option_or}
use Rattle.std.specs.List.{list_any}
use Rattle.std.proofs.lemmas.List.{take_more, take-append-drop}
use Rattle.counterexample_spec.specs.Values.{first_found}

pub any_mapped : {X Y : Type 0} (f : Y → Bool) (g : X → Y) (xs : List X) → list_any f (map g xs) ≡ list_any (λ x. f (g x)) xs
any_mapped f g [] = refl
any_mapped f g (x ∷ xs) = ap (λ b. f (g x) || b) (any_mapped f g xs)

skip : {Z : Type 0} (o p q r : Option Z) → (p ≡ None → q ≡ r) → option_or o p ≡ None → option_or o q ≡ r
skip None p q r k e = k e
skip (Some z) p q r k e = (let no : ⊥ = cc in absurd no)

keep : {Z : Type 0} (o p q : Option Z) (z : Z) → (p ≡ Some z → q ≡ Some z) → option_or o p ≡ Some z → option_or o q ≡ Some z
keep None p q z k e = k e
keep (Some w) p q z k e = e

or_none : {Z : Type 0} (o : Option Z) → option_or o None ≡ o
or_none None = refl
or_none (Some z) = refl

module _ {X Y Z : Type 0} (f : Y → Option Z) (g : X → Y) where
  -- nothing before the item, and what the item gives
  pushed : (xs : List X) (x : X) → first_found f (map g xs) ≡ None → first_found f (map g (xs ++ x ∷ [])) ≡ option_or (f (g x)) None
  pushed [] x h = refl
  pushed (y ∷ xs) x h = skip (f (g y)) (first_found f (map g xs)) (first_found f (map g (xs ++ x ∷ []))) (option_or (f (g x)) None) (pushed xs x) h

  -- what is behind what was found changes nothing
  found_early : (xs ys : List X) (z : Z) → first_found f (map g xs) ≡ Some z → first_found f (map g (xs ++ ys)) ≡ Some z
  found_early [] ys z h = (let no : ⊥ = cc in absurd no)
  found_early (y ∷ xs) ys z h = keep (f (g y)) (first_found f (map g xs)) (first_found f (map g (xs ++ ys))) z (found_early xs ys z) h

  one_more : (xs : List X) (i : ℕ) (x : X) → i < length xs → x ≡ get_or xs i x → first_found f (map g (take i xs)) ≡ None → first_found f (map g (take (i + 1) xs)) ≡ f (g x)
  one_more xs i x lt is none =
      ap (λ l. first_found f (map g l)) (take_more xs i x lt ∙ ap (λ z. take i xs ++ z ∷ []) (sym is))
      ∙ pushed (take i xs) x none ∙ or_none (f (g x))

  -- a loop's step that finds nothing
  pub nothing_more : (xs : List X) (i : ℕ) (x : X) → i < length xs → x ≡ get_or xs i x → first_found f (map g (take i xs)) ≡ None → None ≡ f (g x) → first_found f (map g (take (i + 1) xs)) ≡ None
  nothing_more xs i x lt is none e = one_more xs i x lt is none ∙ sym e

  -- and where it ends with what the item gives
  pub found_there : (xs : List X) (ys : List Y) (i : ℕ) (x : X) (z : Z) → map g xs ≡ ys → i < length xs → x ≡ get_or xs i x → first_found f (map g (take i xs)) ≡ None → Some z ≡ f (g x) → Some z ≡ first_found f ys
  found_there xs ys i x z same lt is none e =
      sym (found_early (take (i + 1) xs) (drop (i + 1) xs) z (one_more xs i x lt is none ∙ sym e))
      ∙ ap (λ l. first_found f (map g l)) (take-append-drop (i + 1) xs) ∙ ap (first_found f) same
