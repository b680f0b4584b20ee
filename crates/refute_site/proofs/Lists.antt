-- What is gathered from lists.
use Rattle.std.proofs.Common.{◌≡◌, ℕ, ◌+◌, ◌<◌, ◌≤◌, List, [], ◌∷◌, ◌++◌, refl, sym, ap, ◌∙◌, subst, length, get_or, take, append_assoc, append-nil}
use Rattle.std.specs.Prelude.{Bool, ◌&&◌, map, filter}
use Rattle.std.specs.List.{list_all, flat_map}
use Rattle.std.proofs.lemmas.List.{take_more, take_all}
use Rattle.std.proofs.lemmas.Grind.{flat_map-append}
use Rattle.std.proofs.lemmas.List.Elements.{filter-append}
use Rattle.query_spec.specs.Query.{Condition as PlainCondition}
use Rattle.struql_ast.specs.declared.Condition.{Condition}
use Rattle.struql_ast.specs.Reading.{condition_of}

all_mapped : {X Y : Type 0} (f : Y → Bool) (g : X → Y) (xs : List X) → list_all f (map g xs) ≡ list_all (λ x. f (g x)) xs
all_mapped f g [] = refl
all_mapped f g (x ∷ xs) = ap (λ b. f (g x) && b) (all_mapped f g xs)

pub all_of_conditions : (f : PlainCondition → Bool) (scanned : List Condition) (conditions : List PlainCondition) (b : Bool) → map condition_of scanned ≡ conditions → b ≡ list_all (λ c. f (condition_of c)) scanned → b ≡ list_all f conditions
all_of_conditions f scanned conditions b same is = is ∙ (sym (all_mapped f condition_of scanned) ∙ ap (list_all f) same)

-- a step of a loop that gathers what h makes of each item, after what it had
pub gathered_more : {X Y : Type 0} (h : X → List Y) (had before now : List Y) (xs scanned : List X) (i : ℕ) (x : X) → scanned ≡ xs → i < length scanned → x ≡ get_or scanned i x → before ≡ had ++ flat_map h (take i xs) → now ≡ before ++ h x → now ≡ had ++ flat_map h (take (i + 1) xs)
gathered_more h had before now xs scanned i x same lt is e f =
    subst (λ l. now ≡ had ++ flat_map h (take (i + 1) l)) same
    (f ∙ ap (λ z. z ++ h x) (subst (λ l. before ≡ had ++ flat_map h (take i l)) (sym same) e) ∙ append_assoc had (flat_map h (take i scanned)) (h x) ∙ ap (λ z. had ++ z) (sym step))
  where
    step : flat_map h (take (i + 1) scanned) ≡ flat_map h (take i scanned) ++ h x
    step =
        ap (flat_map h) (take_more scanned i x lt ∙ ap (λ z. take i scanned ++ z ∷ []) (sym is))
        ∙ (flat_map-append h (take i scanned) (x ∷ []) ∙ ap (λ z. flat_map h (take i scanned) ++ z) (append-nil (h x)))

-- and its end
pub gathered_all : {X Y : Type 0} (h : X → List Y) (had now : List Y) (xs scanned : List X) (i : ℕ) → scanned ≡ xs → length scanned ≤ i → now ≡ had ++ flat_map h (take i xs) → now ≡ had ++ flat_map h xs
gathered_all h had now xs scanned i same le e = e ∙ ap (λ l. had ++ flat_map h l) (take_all i xs (subst (λ l. length l ≤ i) same le))

pub flat_mapped : {X Y Z : Type 0} (f : Y → List Z) (g : X → Y) (xs : List X) → flat_map f (map g xs) ≡ flat_map (λ x. f (g x)) xs
flat_mapped f g [] = refl
flat_mapped f g (x ∷ xs) = ap (λ l. f (g x) ++ l) (flat_mapped f g xs)

flat_flat : {X Y Z : Type 0} (f : Y → List Z) (g : X → List Y) (xs : List X) → flat_map f (flat_map g xs) ≡ flat_map (λ x. flat_map f (g x)) xs
flat_flat f g [] = refl
flat_flat f g (x ∷ xs) = flat_map-append f (g x) (flat_map g xs) ∙ ap (λ l. flat_map f (g x) ++ l) (flat_flat f g xs)

kept_flat : {X Y : Type 0} (p : Y → Bool) (g : X → List Y) (xs : List X) → filter p (flat_map g xs) ≡ flat_map (λ x. filter p (g x)) xs
kept_flat p g [] = refl
kept_flat p g (x ∷ xs) = filter-append p (g x) (flat_map g xs) ∙ ap (λ l. filter p (g x) ++ l) (kept_flat p g xs)

-- what f makes of what passes, list by list
pub made_of_kept : {X Y Z : Type 0} (f : Y → List Z) (p : Y → Bool) (g : X → List Y) (xs : List X) → flat_map (λ x. flat_map f (filter p (g x))) xs ≡ flat_map f (filter p (flat_map g xs))
made_of_kept f p g xs = sym (ap (flat_map f) (kept_flat p g xs) ∙ flat_flat f (λ x. filter p (g x)) xs)

pub each_alone : {X Y : Type 0} (g : X → Y) (xs : List X) → flat_map (λ x. g x ∷ []) xs ≡ map g xs
each_alone g [] = refl
each_alone g (x ∷ xs) = ap (λ l. g x ∷ l) (each_alone g xs)

pub mapped_twice : {X Y Z : Type 0} (f : Y → Z) (g : X → Y) (xs : List X) → map (λ x. f (g x)) xs ≡ map f (map g xs)
mapped_twice f g [] = refl
mapped_twice f g (x ∷ xs) = ap (λ l. f (g x) ∷ l) (mapped_twice f g xs)
