-- What a loop gathers: what h makes of each item, after what there was.
use Rattle.std.proofs.Common.{◌≡◌, ℕ, ◌+◌, ◌<◌, ◌≤◌, List, [], ◌∷◌, ◌++◌, refl, sym, ap, ◌∙◌, subst, length, get_or, take, append_assoc, append-nil}
use Rattle.std.specs.Prelude.{map}
use Rattle.std.specs.List.{flat_map}
use Rattle.std.proofs.lemmas.List.{take_more, take_all}
use Rattle.std.proofs.lemmas.Grind.{flat_map-append}

-- a step of the loop
pub gathered_more : {X Y : Type 0} (h : X → List Y) (had before now : List Y) (xs scanned : List X) (i : ℕ) (x : X) → scanned ≡ xs → i < length scanned → x ≡ get_or scanned i x → before ≡ had ++ flat_map h (take i xs) → now ≡ before ++ h x → now ≡ had ++ flat_map h (take (i + 1) xs)
gathered_more h had before now xs scanned i x same lt is e f =
    let step : flat_map h (take (i + 1) scanned) ≡ flat_map h (take i scanned) ++ h x =
    ap (flat_map h) (take_more scanned i x lt ∙ ap (λ z. take i scanned ++ z ∷ []) (sym is)) ∙ (flat_map-append h (take i scanned) (x ∷ []) ∙ ap (λ z. flat_map h (take i scanned) ++ z) (append-nil (h x))) in
    let old : before ≡ had ++ flat_map h (take i scanned) = e ∙ ap (λ l. had ++ flat_map h (take i l)) (sym same) in
    f ∙ ap (λ z. z ++ h x) old ∙ append_assoc had (flat_map h (take i scanned)) (h x) ∙ ap (λ z. had ++ z) (sym step) ∙ ap (λ l. had ++ flat_map h (take (i + 1) l)) same

-- and its end
pub gathered_all : {X Y : Type 0} (h : X → List Y) (had now : List Y) (xs scanned : List X) (i : ℕ) → scanned ≡ xs → length scanned ≤ i → now ≡ had ++ flat_map h (take i xs) → now ≡ had ++ flat_map h xs
gathered_all h had now xs scanned i same le e = e ∙ ap (λ l. had ++ flat_map h l) (take_all i xs (subst (λ l. length l ≤ i) same le))

-- what is made of what is made of items
pub flat_mapped_twice : {W X Y Z : Type 0} (g : Z → List W) (p : Y → Z) (f : X → Y) (xs : List X) → flat_map (λ x. g (p (f x))) xs ≡ flat_map g (map p (map f xs))
flat_mapped_twice g p f [] = refl
flat_mapped_twice g p f (x ∷ xs) = ap (λ l. g (p (f x)) ++ l) (flat_mapped_twice g p f xs)

pub flat_mapped_flat : {W X Y Z : Type 0} (g : Z → List W) (p : Y → List Z) (f : X → Y) (xs : List X) → flat_map (λ x. flat_map g (p (f x))) xs ≡ flat_map g (flat_map p (map f xs))
flat_mapped_flat g p f [] = refl
flat_mapped_flat g p f (x ∷ xs) = ap (λ l. flat_map g (p (f x)) ++ l) (flat_mapped_flat g p f xs) ∙ sym (flat_map-append g (p (f x)) (flat_map p (map f xs)))
