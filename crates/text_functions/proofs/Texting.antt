-- Texts of values that are joined one after another.
use Rattle.std.proofs.Common.{◌≡◌, ℕ, ◌+◌, ◌-◌, ◌<◌, ◌≤◌, List, [], ◌∷◌, ◌++◌, length, take, drop, get_or, map, flat_map, refl, sym, ap, ◌∙◌, append_assoc, append-nil, arith, add-one, drop-cons, Option, Some, None}
use Rattle.std.specs.Fmt.{option_append}
use Rattle.std.proofs.lemmas.List.{map-append, take_more, take-append-drop, length-append, take_all}
use Rattle.std.proofs.lemmas.Grind.{flat_map-append}
use Rattle.std.proofs.Math.ListN.{drop_of_length-le}
use Rattle.sd_value.specs.declared.Value.{Value}
use Rattle.value_texts.specs.Texts.{text_of}
use Rattle.function_spec.specs.Functions.{joined}

at_item : (vs : List Value) (i : ℕ) (v : Value) → i < length vs → v ≡ get_or vs i v → drop i vs ≡ v ∷ drop (i + 1) vs
at_item vs i v lt is = rw add-one (drop-cons vs i v lt ∙ ap (λ x. x ∷ drop (ℕ.suc i) vs) (sym is))

append_more : (a b : List ℕ) (o : Option (List ℕ)) → option_append (Some (a ++ b)) o ≡ option_append (Some a) (option_append (Some b) o)
append_more a b None = refl
append_more a b (Some r) = ap Some (append_assoc a b r)

module _ (vs : List Value) (i : ℕ) (v : Value) (lt : i < length vs) (is : v ≡ get_or vs i v) (a : List ℕ) (so : option_append (Some a) (joined (drop i vs)) ≡ joined vs) where
  here : joined (drop i vs) ≡ option_append (text_of v) (joined (drop (i + 1) vs))
  here = ap joined (at_item vs i v lt is)

  pub text_more : (b : List ℕ) → text_of v ≡ Some b → option_append (Some (a ++ b)) (joined (drop (i + 1) vs)) ≡ joined vs
  text_more b e =
      append_more a b (joined (drop (i + 1) vs)) ∙ ap (option_append (Some a)) (ap (λ o. option_append o (joined (drop (i + 1) vs))) (sym e) ∙ sym here) ∙ so

  pub text_missing : text_of v ≡ None → None ≡ joined vs
  text_missing e = ap (option_append (Some a)) (ap (λ o. option_append o (joined (drop (i + 1) vs))) (sym e) ∙ sym here) ∙ so

pub text_whole : (vs : List Value) (i : ℕ) (a : List ℕ) → length vs ≤ i → option_append (Some a) (joined (drop i vs)) ≡ joined vs → Some a ≡ joined vs
text_whole vs i a le so =
    ap Some (sym (append-nil a)) ∙ ap (λ r. option_append (Some a) (joined r)) (sym (drop_of_length-le vs {i = i} le)) ∙ so

pub more_as : (vs : List Value) (i : ℕ) (a b : List ℕ) → a ≡ b → option_append (Some b) (joined (drop (i + 1) vs)) ≡ joined vs → option_append (Some a) (joined (drop (i + 1) vs)) ≡ joined vs
more_as vs i a b e h = ap (λ t. option_append (Some t) (joined (drop (i + 1) vs))) e ∙ h

-- one part more, each after the other text
pub each_more : {X : Type 0} (f : X → List ℕ) (by : List ℕ) (xs : List X) (i : ℕ) (d : X) (old one new : List ℕ) → i < length xs → old ≡ flat_map (λ t. by ++ t) (map f (take i xs)) → one ≡ old ++ by → new ≡ one ++ f (get_or xs i d) → new ≡ flat_map (λ t. by ++ t) (map f (take (i + 1) xs))
each_more f by xs i d old one new lt e first is =
    let x = get_or xs i d in
    is ∙ ap (λ o. o ++ f x) first ∙ append_assoc old by (f x) ∙ ap (λ o. o ++ (by ++ f x)) e
    ∙ ap (λ z. flat_map (λ t. by ++ t) (map f (take i xs)) ++ z) (sym (append-nil (by ++ f x)))
    ∙ sym (flat_map-append (λ t. by ++ t) (map f (take i xs)) (f x ∷ []))
    ∙ ap (flat_map (λ t. by ++ t)) (sym (map-append f (take i xs) (x ∷ [])))
    ∙ ap (λ l. flat_map (λ t. by ++ t) (map f l)) (sym (take_more xs i d lt))

-- what is made of some parts is no longer than what is made of all
pub each_below : {X : Type 0} (f : X → List ℕ) (by : List ℕ) (xs : List X) (n : ℕ) → length (flat_map (λ t. by ++ t) (map f (take n xs))) ≤ length (flat_map (λ t. by ++ t) (map f xs))
each_below f by xs n =
    let g = flat_map (λ t. by ++ t) in
    let whole : g (map f xs) ≡ g (map f (take n xs)) ++ g (map f (drop n xs)) = ap (λ l. g (map f l)) (sym (take-append-drop n xs)) ∙ ap g (map-append f (take n xs) (drop n xs)) ∙ flat_map-append (λ t. by ++ t) (map f (take n xs)) (map f (drop n xs)) in
    omega (arith, ap length whole, length-append (g (map f (take n xs))) (g (map f (drop n xs))))

-- what is too long after some parts is too long after all
pub each_over : {X : Type 0} (f : X → List ℕ) (by : List ℕ) (xs : List X) (n : ℕ) (t : List ℕ) (most : ℕ) → t ≡ flat_map (λ y. by ++ y) (map f (take n xs)) → most < length t - length by → most + length by < length (flat_map (λ y. by ++ y) (map f xs))
each_over f by xs n t most e over = let below = each_below f by xs n in let same : length t ≡ length (flat_map (λ y. by ++ y) (map f (take n xs))) = ap length e in omega arith

pub each_all : {X : Type 0} (f : X → List ℕ) (by : List ℕ) (xs : List X) (i : ℕ) (t : List ℕ) → length xs ≤ i → t ≡ flat_map (λ y. by ++ y) (map f (take i xs)) → t ≡ flat_map (λ y. by ++ y) (map f xs)
each_all f by xs i t le e = e ∙ ap (λ l. flat_map (λ y. by ++ y) (map f l)) (take_all i xs le)
