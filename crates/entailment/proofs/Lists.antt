-- A test over a mapped list.
use Rattle.std.proofs.Common.{◌≡◌, List, [], ◌∷◌, ◌++◌, refl, ap, ◌∙◌}
use Rattle.std.specs.Prelude.{Bool, true, false, map, ◌||◌}
use Rattle.std.specs.List.{list_any, flat_map}

pub any_mapped : {X Y : Type 0} (f : Y → Bool) (g : X → Y) (xs : List X) → list_any f (map g xs) ≡ list_any (λ x. f (g x)) xs
any_mapped f g [] = refl
any_mapped f g (x ∷ xs) = ap (λ b. f (g x) || b) (any_mapped f g xs)

pub any_joined : {Y : Type 0} (f : Y → Bool) (xs ys : List Y) → list_any f (xs ++ ys) ≡ (list_any f xs || list_any f ys)
any_joined f [] ys = refl
any_joined f (x ∷ xs) ys = ap (λ b. f x || b) (any_joined f xs ys) ∙ grouped (f x) (list_any f xs) (list_any f ys)
  where
    grouped : (a b c : Bool) → (a || (b || c)) ≡ ((a || b) || c)
    grouped true b c = refl
    grouped false b c = refl

pub any_flat : {X Y : Type 0} (f : Y → Bool) (g : X → List Y) (xs : List X) → list_any f (flat_map g xs) ≡ list_any (λ x. list_any f (g x)) xs
any_flat f g [] = refl
any_flat f g (x ∷ xs) = any_joined f (g x) (flat_map g xs) ∙ ap (λ b. list_any f (g x) || b) (any_flat f g xs)
