-- Links are numbered one after another.
use Rattle.std.proofs.Common.{◌≡◌, ℕ, zero, suc, ◌+◌, ◌<◌, ◌≤◌, List, [], ◌∷◌, ◌++◌, length, take, get_or, refl, ap, sym, ◌∙◌, arith, append_assoc, zero-add, add-one}
use Rattle.std.proofs.lemmas.List.{append-nil, length-map, length-take-le}
use Rattle.std.specs.Prelude.{map}
use Rattle.std.specs.List.{flat_map}
use Rattle.query_spec.specs.Query.{Condition, Link}
use Rattle.constraint_spec.specs.Placed.{PlacedLink}
use Rattle.constraint_recheck.specs.Search.{Numbered, numbered_from}

-- the link under these conditions
abbrev pub placed : List Condition → Link → PlacedLink
placed S k = record { conditions = S; link = k }

pub numbered_joined : (n : ℕ) (xs ys : List PlacedLink) → numbered_from n (xs ++ ys) ≡ numbered_from n xs ++ numbered_from (length xs + n) ys
numbered_joined n [] ys = ap (λ m. numbered_from m ys) (sym (zero-add n))
numbered_joined n (x ∷ xs) ys =
    let e : length xs + suc n ≡ suc (length xs) + n = omega arith in
    ap (λ zs. record { number = n; link = x } ∷ zs) (numbered_joined (suc n) xs ys ∙ ap (λ m. numbered_from (suc n) xs ++ numbered_from m ys) e)

pub numbered_length : (n : ℕ) (xs : List PlacedLink) → length (numbered_from n xs) ≡ length xs
numbered_length n [] = refl
numbered_length n (x ∷ xs) = ap suc (numbered_length (suc n) xs)

mapped_suc : {X A B : Type 0} (f : A → B) (g : X → A) (xs : List X) (i : ℕ) (x : X) → i < length xs → x ≡ get_or xs i x
    → map f (map g (take (suc i) xs)) ≡ map f (map g (take i xs)) ++ f (g x) ∷ []
mapped_suc f g [] i x lt at = absurd (omega arith)
mapped_suc f g (w ∷ xs) zero x lt at = ap (λ z. f (g z) ∷ []) (sym at)
mapped_suc f g (w ∷ xs) (suc i) x lt at = ap (λ zs. f (g w) ∷ zs) (mapped_suc f g xs i x (omega arith) at)

pub mapped_more : {X A B : Type 0} (f : A → B) (g : X → A) (xs : List X) (i : ℕ) (x : X) → i < length xs → x ≡ get_or xs i x
    → map f (map g (take (i + 1) xs)) ≡ map f (map g (take i xs)) ++ f (g x) ∷ []
mapped_more f g xs i x lt at = rw add-one (mapped_suc f g xs i x lt at)

pub mapped_length : {X A B : Type 0} (f : A → B) (g : X → A) (xs : List X) (i : ℕ) → i ≤ length xs → length (map f (map g (take i xs))) ≡ i
mapped_length f g xs i le = length-map (map g (take i xs)) f ∙ length-map (take i xs) g ∙ length-take-le i xs le

flat_suc : {X A B : Type 0} (f : A → List B) (g : X → A) (xs : List X) (i : ℕ) (x : X) → i < length xs → x ≡ get_or xs i x
    → flat_map f (map g (take (suc i) xs)) ≡ flat_map f (map g (take i xs)) ++ f (g x)
flat_suc f g [] i x lt at = absurd (omega arith)
flat_suc f g (w ∷ xs) zero x lt at = append-nil (f (g w)) ∙ ap (λ z. f (g z)) (sym at)
flat_suc f g (w ∷ xs) (suc i) x lt at = ap (λ zs. f (g w) ++ zs) (flat_suc f g xs i x (omega arith) at) ∙ sym (append_assoc (f (g w)) (flat_map f (map g (take i xs))) (f (g x)))

pub flat_more : {X A B : Type 0} (f : A → List B) (g : X → A) (xs : List X) (i : ℕ) (x : X) → i < length xs → x ≡ get_or xs i x
    → flat_map f (map g (take (i + 1) xs)) ≡ flat_map f (map g (take i xs)) ++ f (g x)
flat_more f g xs i x lt at = rw add-one (flat_suc f g xs i x lt at)

-- one link more of a block, and then one block more
pub link_more : (old now : List Numbered) (first : ℕ) (before : List PlacedLink) (k : PlacedLink) (new : Numbered)
    → now ≡ old ++ numbered_from first before → new ≡ record { number = length before + first; link = k } → now ++ new ∷ [] ≡ old ++ numbered_from first (before ++ k ∷ [])
link_more old now first before k new e f =
    ap (λ zs. zs ++ new ∷ []) e
    ∙ append_assoc old (numbered_from first before) (new ∷ [])
    ∙ ap (λ z. old ++ (numbered_from first before ++ z ∷ [])) f
    ∙ ap (λ zs. old ++ zs) (sym (numbered_joined first before (k ∷ [])))

pub block_more : (now next : List Numbered) (seen more : List PlacedLink) → now ≡ numbered_from 1 seen → next ≡ now ++ numbered_from (length now + 1) more → next ≡ numbered_from 1 (seen ++ more)
block_more now next seen more e f =
    f
    ∙ ap (λ zs. zs ++ numbered_from (length zs + 1) more) e
    ∙ ap (λ n. numbered_from 1 seen ++ numbered_from (n + 1) more) (numbered_length 1 seen)
    ∙ sym (numbered_joined 1 seen more)
