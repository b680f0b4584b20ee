-- What `split_once` finds, and the parts of a text.
use Rattle.std.proofs.Common.{◌≡◌, ℕ, ◌+◌, ◌<◌, ◌≤◌, List, [], ◌∷◌, ◌++◌, length, take, drop, map, flat_map, length-append, sym, ap, ◌∙◌, append_assoc, arith, Option, Some, None, MatchOption, ⊎_elim, subst}
use denote.Ref.{Bor}
use Rattle.std.specs.List.{join_by}
use Rattle.std.specs.Str.Pattern.{FindsText}
use Rattle.std.proofs.lemmas.Bool.{cases_lt}
use Rattle.std.proofs.lemmas.List.{map-append, append_cancel_left}
use Rattle.std.proofs.lemmas.Str.Pattern.{split_text_parts}
use Rattle.std.proofs.Math.Seq.{drop-append_seam, take-append_seam}
use Rattle.value_texts.specs.Texts.{TextHolds}
use Rattle.value_texts.specs.declared.TextTest.TheVariants.{Has}
use Rattle.function_spec.specs.Cuts.{IsFirstAt, AreParts}

abbrev Cuts : List ℕ → List ℕ → Option (Bor (List ℕ) × Bor (List ℕ)) → Type 0
Cuts s t r = MatchOption r (FindsText s t None) (λ x. (i : ℕ) × (j : ℕ) × FindsText s t (Some (i, j)) × (x.0.now ≡ take i t) × (x.1.now ≡ drop j t) × (i ≤ j) × (length x.0.now ≡ i) × (length x.1.now + j ≡ length t))

not_before : (s t : List ℕ) (i : ℕ) → ((k : ℕ) → k < i → (rest : List ℕ) → drop k t ≡ s ++ rest → ⊥) → (f b : List ℕ) → t ≡ f ++ (s ++ b) → i ≤ length f
not_before s t i none f b e =
    ⊎_elim (λ lt. absurd (none (length f) lt b (ap (drop (length f)) e ∙ drop-append_seam f (s ++ b)))) (λ le. le) (cases_lt (length f) i)

-- what `split_once` gives is cut at the first place
pub cut_at_first : (s t : List ℕ) (r : Option (Bor (List ℕ) × Bor (List ℕ))) → Cuts s t r → MatchOption r (¬ (TextHolds Has t s)) (λ x. IsFirstAt s t x.0.now x.1.now)
cut_at_first s t None h = λ found. split_text_parts s t None h found.0 found.1 found.2
cut_at_first s t (Some x) h = record {
  whole = split_text_parts s t (Some x) h;
  first = λ f b e. subst (λ n. n ≤ length f) (sym h.6) (not_before s t h.0 h.2.0 f b e);
}

-- a part in front of the parts of what is left
pub parts_more : (s t front back : List ℕ) (ps : List (List ℕ)) → IsFirstAt s t front back → AreParts s back ps → AreParts s t (front ∷ ps)
parts_more s t front back [] first none = absurd none
parts_more s t front back (p ∷ ps) first more = (back, first, more)

pub pushed : {X : Type 0} (f : X → List ℕ) (xs : List X) (x : X) (ps : List (List ℕ)) → map f (xs ++ x ∷ []) ++ ps ≡ map f xs ++ (f x ∷ ps)
pushed f xs x ps = ap (λ l. l ++ ps) (map-append f xs (x ∷ [])) ∙ append_assoc (map f xs) (f x ∷ []) ps

take_front : (s t f b : List ℕ) → t ≡ f ++ (s ++ b) → take (length f) t ≡ f
take_front s t f b e = ap (take (length f)) e ∙ take-append_seam f (s ++ b)

-- there is one first place
pub same_front : (s t f b f' b' : List ℕ) → IsFirstAt s t f b → IsFirstAt s t f' b' → f ≡ f'
same_front s t f b f' b' h k =
    let one : length f ≤ length f' = h.first f' b' k.whole in
    let two : length f' ≤ length f = k.first f b h.whole in
    let same : length f ≡ length f' = omega arith in
    sym (take_front s t f b h.whole) ∙ ap (λ n. take n t) same ∙ take_front s t f' b' k.whole

pub same_back : (s t f b f' b' : List ℕ) → IsFirstAt s t f b → IsFirstAt s t f' b' → b ≡ b'
same_back s t f b f' b' h k =
    let same = same_front s t f b f' b' h k in
    append_cancel_left s b b' (append_cancel_left f (s ++ b) (s ++ b') (sym h.whole ∙ k.whole ∙ ap (λ x. x ++ (s ++ b')) (sym same)))

-- a text has one list of parts
pub parts_same : (s t : List ℕ) (ps qs : List (List ℕ)) → AreParts s t ps → AreParts s t qs → ps ≡ qs
parts_same s t [] qs h k = absurd h
parts_same s t (p ∷ []) [] h k = absurd k
parts_same s t (p ∷ []) (q ∷ []) h k = ap (λ x. x ∷ []) (h.0 ∙ sym k.0)
parts_same s t (p ∷ []) (q ∷ r ∷ qs) h k = absurd (h.1 (q, k.0, k.1.whole))
parts_same s t (p ∷ o ∷ ps) [] h k = absurd k
parts_same s t (p ∷ o ∷ ps) (q ∷ []) h k = absurd (k.1 (p, h.0, h.1.whole))
parts_same s t (p ∷ o ∷ ps) (q ∷ r ∷ qs) h k =
    let front = same_front s t p h.0 q k.0 h.1 k.1 in
    let back = same_back s t p h.0 q k.0 h.1 k.1 in
    let more = parts_same s k.0 (o ∷ ps) (r ∷ qs) (subst (λ b. AreParts s b (o ∷ ps)) back h.2) k.2 in
    λ i. front i ∷ more i

-- each part after a text is that text and the parts joined by it
pub each_is : (u s t : List ℕ) (ps : List (List ℕ)) → AreParts s t ps → flat_map (λ y. u ++ y) ps ≡ u ++ join_by (λ y. y) u ps
each_is u s t [] h = absurd h
each_is u s t (p ∷ ps) h = append_assoc u p (flat_map (λ y. u ++ y) ps)

module _ (u s t : List ℕ) (ps : List (List ℕ)) (h : AreParts s t ps) where
  pub each_drop : drop (length u) (flat_map (λ y. u ++ y) ps) ≡ join_by (λ y. y) u ps
  each_drop = ap (drop (length u)) (each_is u s t ps h) ∙ drop-append_seam u (join_by (λ y. y) u ps)

  pub each_long : length (flat_map (λ y. u ++ y) ps) ≡ length u + length (join_by (λ y. y) u ps)
  each_long = ap length (each_is u s t ps h) ∙ length-append u (join_by (λ y. y) u ps)
