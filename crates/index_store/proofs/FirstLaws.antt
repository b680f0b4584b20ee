-- Places of distinct items, which are found one after another.
use Rattle.std.specs.Prelude.{◌≡◌, ◌<◌, ℕ, ◌+◌, Bool, true, false, if◌then◌else◌, Some, List, [], ◌∷◌, ◌++◌, length, slice_get, slice_index, Contains}
use Rattle.std.proofs.Common.{arith, refl, sym, ap, ◌∙◌, subst, inl, inr}
use Rattle.std.proofs.lemmas.Bool.{cases_lt}
use Rattle.std.proofs.lemmas.List.{length_push, get_or_append_left, get_or_push, get_or_default}
use Rattle.std.proofs.lemmas.List.Elements.{Contains-get_or, Contains-append_left}
use Rattle.std.proofs.lemmas.Option.{get_or_from_slice_get, slice_get_within}
use Rattle.index_store.specs.Ranks.{item_at, AreApart, AreFirsts}
use Rattle.index_store.proofs.RankLaws.{All-from_contained}

-- the first n items by the numbers of their keys
pub record AreNumbered {X : Type 0} (xs : List X) (n : ℕ) (keys : List X) (firsts originals : List ℕ) : Type 0 where
  pub same : length firsts ≡ length keys
  pub below : (a : ℕ) → a < length firsts → slice_index firsts a < n
  pub found : (a : ℕ) (d : X) → a < length firsts → item_at xs d (slice_index firsts a) ≡ item_at keys d a
  pub counted : length originals ≡ n
  pub known : (i : ℕ) → i < n → Contains firsts (slice_index originals i)
  pub equal : (i : ℕ) (d : X) → i < n → item_at xs d (slice_index originals i) ≡ item_at xs d i

-- what holds of each place of a list, and of one pushed
at_pushed : {Y : Type 0} (P : ℕ → Y → Type 0) (ys : List Y) (y d : Y) → ((i : ℕ) → i < length ys → P i (item_at ys d i)) → P (length ys) y
    → (i : ℕ) → i < length ys + 1 → P i (item_at (ys ++ y ∷ []) d i)
at_pushed P ys y d old new i l = elim (cases_lt i (length ys)) [
  | inl before ↦ subst (P i) (sym (get_or_append_left ys (y ∷ []) d i before)) (old i before)
  | inr past ↦
      let e : length ys ≡ i = omega arith in
      subst (λ k. P k (item_at (ys ++ y ∷ []) d k)) e (subst (P (length ys)) (sym (get_or_push ys y d (length ys) refl)) new)
]

module _ {X : Type 0} (xs : List X) (n : ℕ) (keys : List X) (firsts originals : List ℕ) (are : AreNumbered xs n keys firsts originals) (x : X)
    (here : (d : X) → item_at xs d n ≡ x) where
  old_key : (number : ℕ) → slice_get keys number ≡ Some x → AreNumbered xs (n + 1) keys firsts (originals ++ slice_index firsts number ∷ [])
  old_key number at = record {
    same = are.same;
    below = λ a l. omega (arith, are.below a l);
    found = are.found;
    counted = length_push originals (slice_index firsts number) ∙ ap (λ k. k + 1) are.counted;
    known = λ i l. at_pushed (λ k v. Contains firsts v) originals (slice_index firsts number) 0 (λ k m. are.known k (omega (arith, m, are.counted))) (Contains-get_or firsts number 0 within) i (omega (arith, l, are.counted));
    equal = λ i d l. at_pushed (λ k v. item_at xs d v ≡ item_at xs d k) originals (slice_index firsts number) 0 (λ k m. are.equal k d (omega (arith, m, are.counted)))
        (are.found number d within ∙ get_or_from_slice_get keys number x d at ∙ sym (here d) ∙ ap (item_at xs d) (sym are.counted)) i (omega (arith, l, are.counted));
  }
    where
      within : number < length firsts
      within = let l = slice_get_within keys number x at in omega (arith, l, are.same)

module _ {X : Type 0} (xs : List X) (n : ℕ) (keys : List X) (firsts originals : List ℕ) (are : AreNumbered xs n keys firsts originals) (x : X)
    (here : (d : X) → item_at xs d n ≡ x) where
  new_key : (number : ℕ) → slice_get (keys ++ x ∷ []) number ≡ Some x → AreNumbered xs (n + 1) (keys ++ x ∷ []) (firsts ++ n ∷ []) (originals ++ slice_index (firsts ++ n ∷ []) number ∷ [])
  new_key number at = record {
    same = length_push firsts n ∙ ap (λ k. k + 1) are.same ∙ sym (length_push keys x);
    below = below;
    found = found;
    counted = length_push originals v ∙ ap (λ k. k + 1) are.counted;
    known = λ i l. at_pushed (λ k w. Contains (firsts ++ n ∷ []) w) originals v 0 (λ k m. Contains-append_left firsts (n ∷ []) _ (are.known k (omega (arith, m, are.counted)))) (Contains-get_or (firsts ++ n ∷ []) number 0 within) i (omega (arith, l, are.counted));
    equal = λ i d l. at_pushed (λ k w. item_at xs d w ≡ item_at xs d k) originals v 0 (λ k m. are.equal k d (omega (arith, m, are.counted)))
        (found number d within ∙ get_or_from_slice_get (keys ++ x ∷ []) number x d at ∙ sym (here d) ∙ ap (item_at xs d) (sym are.counted)) i (omega (arith, l, are.counted));
  }
    where
      v : ℕ
      v = slice_index (firsts ++ n ∷ []) number

      within : number < length (firsts ++ n ∷ [])
      within = let l = slice_get_within (keys ++ x ∷ []) number x at in omega (arith, l, are.same, length_push firsts n, length_push keys x)

      below : (a : ℕ) → a < length (firsts ++ n ∷ []) → slice_index (firsts ++ n ∷ []) a < n + 1
      below a l = at_pushed (λ k w. w < n + 1) firsts n 0 (λ k m. omega (arith, are.below k m)) (omega arith) a (omega (arith, l, length_push firsts n))

      found : (a : ℕ) (d : X) → a < length (firsts ++ n ∷ []) → item_at xs d (slice_index (firsts ++ n ∷ []) a) ≡ item_at (keys ++ x ∷ []) d a
      found a d l = at_pushed (λ k w. item_at xs d w ≡ item_at (keys ++ x ∷ []) d k) firsts n 0
          (λ k m. are.found k d m ∙ sym (get_or_append_left keys (x ∷ []) d k (omega (arith, m, are.same))))
          (here d ∙ sym (get_or_push keys x d (length keys) refl) ∙ ap (item_at (keys ++ x ∷ []) d) (sym are.same)) a (omega (arith, l, length_push firsts n))

-- one item more, which is new or not
pub numbered_more : {X : Type 0} (xs : List X) (n : ℕ) (keys : List X) (firsts originals : List ℕ) → AreNumbered xs n keys firsts originals → (x : X) → ((d : X) → item_at xs d n ≡ x)
    → (new : Bool) (number : ℕ) → slice_get (if new then keys ++ x ∷ [] else keys) number ≡ Some x
    → AreNumbered xs (n + 1) (if new then keys ++ x ∷ [] else keys) (if new then firsts ++ n ∷ [] else firsts) (originals ++ slice_index (if new then firsts ++ n ∷ [] else firsts) number ∷ [])
numbered_more xs n keys firsts originals are x here true number at = new_key xs n keys firsts originals are x here number at
numbered_more xs n keys firsts originals are x here false number at = old_key xs n keys firsts originals are x here number at

pub number_fits : {X : Type 0} (xs : List X) (n : ℕ) (keys : List X) (firsts originals : List ℕ) → AreNumbered xs n keys firsts originals → (x : X) (new : Bool) (number : ℕ)
    → slice_get (if new then keys ++ x ∷ [] else keys) number ≡ Some x → number < length (if new then firsts ++ n ∷ [] else firsts)
number_fits xs n keys firsts originals are x true number at = let l = slice_get_within (keys ++ x ∷ []) number x at in omega (arith, l, are.same, length_push firsts n, length_push keys x)
number_fits xs n keys firsts originals are x false number at = let l = slice_get_within keys number x at in omega (arith, l, are.same)

-- all items
pub all_numbered : {X : Type 0} (xs keys : List X) (firsts originals : List ℕ) → AreNumbered xs (length xs) keys firsts originals → AreApart keys → AreFirsts xs firsts originals
all_numbered {X} xs keys firsts originals are differ = record {
  fits = All-from_contained (λ i. i < length xs) firsts (λ i h. let (a, l, is) = h in subst (λ k. k < length xs) (get_or_default firsts a 0 i l ∙ is) (are.below a l));
  apart = λ i j d h k e. let (a, l, is) = h in let (b, m, also) = k in
      let at_i : slice_index firsts a ≡ i = get_or_default firsts a 0 i l ∙ is in
      let at_j : slice_index firsts b ≡ j = get_or_default firsts b 0 j m ∙ also in
      let tie : item_at keys d a ≡ item_at keys d b = sym (are.found a d l) ∙ ap (item_at xs d) at_i ∙ e ∙ ap (item_at xs d) (sym at_j) ∙ are.found b d m in
      sym at_i ∙ ap (slice_index firsts) (level a b d l m tie) ∙ at_j;
  counted = are.counted;
  known = are.known;
  equal = are.equal;
}
  where
    level : (a b : ℕ) (d : X) → a < length firsts → b < length firsts → item_at keys d a ≡ item_at keys d b → a ≡ b
    level a b d l m tie = elim (cases_lt a b) [
      | inl less ↦ absurd (differ a b d less (omega (arith, m, are.same)) tie)
      | inr most ↦ elim (cases_lt b a) [
        | inl more ↦ absurd (differ b a d more (omega (arith, l, are.same)) (sym tie))
        | inr least ↦ omega arith
      ]
    ]
