-- Tests over lists, and what a test keeps of a list.
use Rattle.std.proofs.Common.{◌≡◌, ℕ, ◌+◌, ◌<◌, ◌≤◌, List, [], ◌∷◌, ◌++◌, refl, sym, ap, ◌∙◌, subst, length, get_or, take, append_assoc, append-nil}
use Rattle.std.specs.Prelude.{Bool, true, false, ◌&&◌, ◌||◌, map, filter, OnOk, Result, Ok, Err}
use Rattle.std.specs.List.{list_any, list_all, flat_map}
use Rattle.std.proofs.lemmas.List.{take_more, map-append, take_all}
use Rattle.std.proofs.lemmas.Grind.{flat_map-append}
use Rattle.std.proofs.lemmas.List.Elements.{filter-append}

-- ---- tests

pub any_mapped : {X Y : Type 0} (f : Y → Bool) (g : X → Y) (xs : List X) → list_any f (map g xs) ≡ list_any (λ x. f (g x)) xs
any_mapped f g [] = refl
any_mapped f g (x ∷ xs) = ap (λ b. f (g x) || b) (any_mapped f g xs)

or_grouped : (a b c : Bool) → (a || (b || c)) ≡ ((a || b) || c)
or_grouped true b c = refl
or_grouped false b c = refl

any_joined : {Y : Type 0} (f : Y → Bool) (xs ys : List Y) → list_any f (xs ++ ys) ≡ (list_any f xs || list_any f ys)
any_joined f [] ys = refl
any_joined f (x ∷ xs) ys = ap (λ b. f x || b) (any_joined f xs ys) ∙ or_grouped (f x) (list_any f xs) (list_any f ys)

pub any_flat : {X Y : Type 0} (f : Y → Bool) (g : X → List Y) (xs : List X) → list_any f (flat_map g xs) ≡ list_any (λ x. list_any f (g x)) xs
any_flat f g [] = refl
any_flat f g (x ∷ xs) = any_joined f (g x) (flat_map g xs) ∙ ap (λ b. list_any f (g x) || b) (any_flat f g xs)

pub all_mapped : {X Y : Type 0} (f : Y → Bool) (g : X → Y) (xs : List X) → list_all f (map g xs) ≡ list_all (λ x. f (g x)) xs
all_mapped f g [] = refl
all_mapped f g (x ∷ xs) = ap (λ b. f (g x) && b) (all_mapped f g xs)

and_grouped : (a b c : Bool) → (a && (b && c)) ≡ ((a && b) && c)
and_grouped true b c = refl
and_grouped false b c = refl

all_joined : {Y : Type 0} (f : Y → Bool) (xs ys : List Y) → list_all f (xs ++ ys) ≡ (list_all f xs && list_all f ys)
all_joined f [] ys = refl
all_joined f (x ∷ xs) ys = ap (λ b. f x && b) (all_joined f xs ys) ∙ and_grouped (f x) (list_all f xs) (list_all f ys)

pub all_flat : {X Y : Type 0} (f : Y → Bool) (g : X → List Y) (xs : List X) → list_all f (flat_map g xs) ≡ list_all (λ x. list_all f (g x)) xs
all_flat f g [] = refl
all_flat f g (x ∷ xs) = all_joined f (g x) (flat_map g xs) ∙ ap (λ b. list_all f (g x) && b) (all_flat f g xs)

-- ---- what is gathered in a loop

-- a step of a loop that gathers what h makes of each item, after what it had
pub gathered_more : {X Y : Type 0} (h : X → List Y) (had before now more : List Y) (xs : List X) (i : ℕ) (x : X) → i < length xs → x ≡ get_or xs i x → before ≡ had ++ flat_map h (take i xs) → now ≡ before ++ more → more ≡ h x → now ≡ had ++ flat_map h (take (i + 1) xs)
gathered_more h had before now more xs i x lt is e f m =
    let step : flat_map h (take (i + 1) xs) ≡ flat_map h (take i xs) ++ h x =
    ap (flat_map h) (take_more xs i x lt ∙ ap (λ z. take i xs ++ z ∷ []) (sym is)) ∙ (flat_map-append h (take i xs) (x ∷ []) ∙ ap (λ z. flat_map h (take i xs) ++ z) (append-nil (h x))) in
    f ∙ ap (λ z. z ++ more) e ∙ append_assoc had (flat_map h (take i xs)) more ∙ ap (λ z. had ++ (flat_map h (take i xs) ++ z)) m ∙ ap (λ z. had ++ z) (sym step)

-- and its end
pub gathered_all : {X Y : Type 0} (h : X → List Y) (had now : List Y) (xs : List X) (i : ℕ) → length xs ≤ i → now ≡ had ++ flat_map h (take i xs) → now ≡ had ++ flat_map h xs
gathered_all h had now xs i le e = e ∙ ap (λ l. had ++ flat_map h l) (take_all i xs le)

-- the same of a loop over an equal list
pub gathered_scanned : {X Y : Type 0} (h : X → List Y) (had before now more : List Y) (xs scanned : List X) (i : ℕ) (x : X) → scanned ≡ xs → i < length scanned → x ≡ get_or scanned i x → before ≡ had ++ flat_map h (take i xs) → now ≡ before ++ more → more ≡ h x → now ≡ had ++ flat_map h (take (i + 1) xs)
gathered_scanned h had before now more xs scanned i x same lt is e f m =
    subst (λ l. now ≡ had ++ flat_map h (take (i + 1) l)) same
    (gathered_more h had before now more scanned i x lt is (subst (λ l. before ≡ had ++ flat_map h (take i l)) (sym same) e) f m)

pub gathered_of_scanned : {X Y : Type 0} (h : X → List Y) (had now : List Y) (xs scanned : List X) (i : ℕ) → scanned ≡ xs → length scanned ≤ i → now ≡ had ++ flat_map h (take i xs) → now ≡ had ++ flat_map h xs
gathered_of_scanned h had now xs scanned i same le e = gathered_all h had now xs i (subst (λ l. length l ≤ i) same le) e

-- ---- what a test keeps

pub kept_flat : {X Y : Type 0} (p : Y → Bool) (g : X → List Y) (xs : List X) → filter p (flat_map g xs) ≡ flat_map (λ x. filter p (g x)) xs
kept_flat p g [] = refl
kept_flat p g (x ∷ xs) = filter-append p (g x) (flat_map g xs) ∙ ap (λ l. filter p (g x) ++ l) (kept_flat p g xs)

pub mapped_flat : {X Y Z : Type 0} (f : Y → Z) (g : X → List Y) (xs : List X) → map f (flat_map g xs) ≡ flat_map (λ x. map f (g x)) xs
mapped_flat f g [] = refl
mapped_flat f g (x ∷ xs) = map-append f (g x) (flat_map g xs) ∙ ap (λ l. map f (g x) ++ l) (mapped_flat f g xs)

pub flat_mapped : {X Y Z : Type 0} (f : Y → List Z) (g : X → Y) (xs : List X) → flat_map f (map g xs) ≡ flat_map (λ x. f (g x)) xs
flat_mapped f g [] = refl
flat_mapped f g (x ∷ xs) = ap (λ l. f (g x) ++ l) (flat_mapped f g xs)

pub each_alone : {X Y : Type 0} (g : X → Y) (xs : List X) → map g xs ≡ flat_map (λ x. g x ∷ []) xs
each_alone g [] = refl
each_alone g (x ∷ xs) = ap (λ l. g x ∷ l) (each_alone g xs)

pub kept_one_by_one : {X Y : Type 0} (p : Y → Bool) (g : X → Y) (xs : List X) → filter p (map g xs) ≡ flat_map (λ x. filter p (g x ∷ [])) xs
kept_one_by_one p g xs = ap (filter p) (each_alone g xs) ∙ kept_flat p (λ x. g x ∷ []) xs

pub mapped_twice : {X Y Z : Type 0} (f : Y → Z) (g : X → Y) (xs : List X) → map f (map g xs) ≡ map (λ x. f (g x)) xs
mapped_twice f g [] = refl
mapped_twice f g (x ∷ xs) = ap (λ l. f (g x) ∷ l) (mapped_twice f g xs)

-- ---- one item, where it passes a test

pub pushed : {X Y : Type 0} (g : X → Y) (old new : List X) (x : X) (made : Bool → List Y) (b : Bool) → new ≡ old ++ x ∷ [] → b ≡ true → made true ≡ g x ∷ [] → map g new ≡ map g old ++ made b
pushed g old new x made b e t m = ap (map g) e ∙ (map-append g old (x ∷ []) ∙ ap (λ l. map g old ++ l) (sym m ∙ ap made (sym t)))

pub unchanged : {Y : Type 0} (old : List Y) (made : Bool → List Y) (b : Bool) → b ≡ false → made false ≡ [] → old ≡ old ++ made b
unchanged old made b t m = sym (append-nil old) ∙ ap (λ l. old ++ l) (sym m ∙ ap made (sym t))

-- ---- answers

pub on_ok : {T E : Type 0} (r : Result T E) (P Q : Type 0) → (P → Q) → OnOk r P → OnOk r Q
on_ok (Ok x) P Q f h = f h
on_ok (Err e) P Q f h = tt
