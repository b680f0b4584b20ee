-- Words that are joined one after another.
use Rattle.std.proofs.Common.{◌≡◌, ℕ, ◌+◌, ◌<◌, take, get_or, List, [], ◌∷◌, ◌++◌, length, map, refl, sym, ap, ◌∙◌, append_assoc, append-nil, true, false, cond, if◌then◌else◌}
use Rattle.std.specs.Prelude.{◌==◌, not}
use Rattle.std.proofs.lemmas.Bool.{false≢true}
use Rattle.std.proofs.Math.Dec.{eqb-suc-zero}
use Rattle.std.specs.List.{filter, join_with_byte}
use Rattle.std.proofs.lemmas.List.{map-append, take_more}
use Rattle.std.proofs.lemmas.List.Elements.{filter-append}
use Rattle.function_spec.specs.Words.{is_filled}

-- a text with one word more
abbrev pub with_word : ℕ → List ℕ → List ℕ → List ℕ
with_word m t w = if is_filled w then (if length t == 0 then w else t ++ (m ∷ w)) else t

join_more : (m : ℕ) (v w : List ℕ) (ws : List (List ℕ)) → join_with_byte m ((v ∷ ws) ++ w ∷ []) ≡ join_with_byte m (v ∷ ws) ++ (m ∷ w)
join_more m v w [] = refl
join_more m v w (u ∷ us) = ap (λ t. v ++ (m ∷ t)) (join_more m u w us) ∙ sym (append_assoc v (m ∷ join_with_byte m (u ∷ us)) (m ∷ w))

filled_cons : (b : ℕ) (bs : List ℕ) → is_filled (b ∷ bs) ≡ true
filled_cons b bs = ap not (eqb-suc-zero (length bs))

long : (m : ℕ) (v : List ℕ) (ws : List (List ℕ)) → is_filled v ≡ true → (length (join_with_byte m (v ∷ ws)) == 0) ≡ false
long m [] ws f = absurd (false≢true f)
long m (b ∷ bs) [] f = eqb-suc-zero (length bs)
long m (b ∷ bs) (u ∷ us) f = eqb-suc-zero (length (bs ++ (m ∷ join_with_byte m (u ∷ us))))

-- the first of the filled words, if there is one, is filled
data Filled (ws : List (List ℕ)) : Type 0 where
  none : ws ≡ [] → Filled ws
  some : (v : List ℕ) (vs : List (List ℕ)) → ws ≡ v ∷ vs → is_filled v ≡ true → Filled ws

kept : (b : ℕ) (bs : List ℕ) (xs : List (List ℕ)) → filter is_filled ((b ∷ bs) ∷ xs) ≡ (b ∷ bs) ∷ filter is_filled xs
kept b bs xs = ap (λ t. cond t ((b ∷ bs) ∷ filter is_filled xs) (filter is_filled xs)) (filled_cons b bs)

filled : (xs : List (List ℕ)) → Filled (filter is_filled xs)
filled [] = none refl
filled ([] ∷ xs) = filled xs
filled ((b ∷ bs) ∷ xs) = some (b ∷ bs) (filter is_filled xs) (kept b bs xs) (filled_cons b bs)

word_more : (m : ℕ) (ws : List (List ℕ)) (w : List ℕ) → Filled ws → (if length (join_with_byte m ws) == 0 then w else join_with_byte m ws ++ (m ∷ w)) ≡ join_with_byte m (ws ++ w ∷ [])
word_more m ws w (none e) = rw e refl
word_more m ws w (some v vs e f) = rw (e, long m v vs f) (sym (join_more m v w vs))

one_more : (m : ℕ) (xs : List (List ℕ)) (w : List ℕ) → with_word m (join_with_byte m (filter is_filled xs)) w ≡ join_with_byte m (filter is_filled (xs ++ w ∷ []))
one_more m xs [] = ap (join_with_byte m) (sym (append-nil (filter is_filled xs)) ∙ sym (filter-append is_filled xs ([] ∷ [])))
one_more m xs (b ∷ bs) =
    let ws = filter is_filled xs in
    let t = join_with_byte m ws in
    ap (λ f. if f then (if length t == 0 then b ∷ bs else t ++ (m ∷ b ∷ bs)) else t) (filled_cons b bs)
    ∙ word_more m ws (b ∷ bs) (filled xs)
    ∙ ap (λ l. join_with_byte m (ws ++ l)) (sym (kept b bs []))
    ∙ ap (join_with_byte m) (sym (filter-append is_filled xs ((b ∷ bs) ∷ [])))

-- one word more of a list
pub word_pushed : {X : Type 0} (f : X → List ℕ) (m : ℕ) (xs : List X) (i : ℕ) (d : X) (old new : List ℕ) → i < length xs → old ≡ join_with_byte m (filter is_filled (map f (take i xs))) → new ≡ with_word m old (f (get_or xs i d)) → new ≡ join_with_byte m (filter is_filled (map f (take (i + 1) xs)))
word_pushed f m xs i d old new lt e is =
    let x = get_or xs i d in
    is ∙ ap (λ t. with_word m t (f x)) e ∙ one_more m (map f (take i xs)) (f x)
    ∙ ap (λ l. join_with_byte m (filter is_filled l)) (sym (map-append f (take i xs) (x ∷ [])))
    ∙ ap (λ l. join_with_byte m (filter is_filled (map f l))) (sym (take_more xs i d lt))
