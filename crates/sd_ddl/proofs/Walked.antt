-- A walk along names and items that are both in order: a name's items are at the front of what is left.
use Rattle.std.specs.Prelude.{◌≡◌, ◌⊎◌, ℕ, ◌<◌, ◌+◌, suc, Bool, true, false, cond, List, [], ◌∷◌, length, take, drop, filter, Contains}
use Rattle.std.specs.declared.cmp.Ordering.{Ordering}
use Rattle.std.specs.declared.cmp.Ordering.TheVariants.{Less, Equal, Greater}
use Rattle.std.specs.Ordering.{is_eq, is_lt, ordering_reverse}
use Rattle.std.specs.List.{prefix_len}
use Rattle.std.specs.List.Sorted.{IsStrictlySortedBy}
use Rattle.std.proofs.Common.{arith, add-one, refl, sym, ap, subst, ◌∙◌, inl, inr, get_or, true≢false}
use Rattle.std.proofs.Math.Seq.{drop-cons, drop-drop}
use Rattle.std.proofs.lemmas.List.Elements.{All-contains}
use Rattle.sd_value.specs.Order.{bytes_cmp}
use Rattle.sd_value.specs.OrderLaws.{bytes_cmp-total, bytes_cmp-exact, bytes_same}
use Rattle.sd_value.specs.AscendingLaws.{head_below, tail_ascends}
use Rattle.sd_value.specs.Members.{Contains-nil, Contains-cons_cases, Contains-here, Contains-there}
use Rattle.sd_ddl.specs.Kinds.{Name, same_name}
use Rattle.sd_ddl.specs.Groups.{Rises}
use Rattle.sd_ddl.proofs.Maps.{same_name-is}

pub filter-none : {X : Type 0} (p : X → Bool) (xs : List X) → ((x : X) → Contains xs x → p x ≡ false) → filter p xs ≡ []
filter-none p [] h = refl
filter-none p (x ∷ xs) h = ap (λ b. cond b (x ∷ filter p xs) (filter p xs)) (h x (Contains-here x xs)) ∙ filter-none p xs (λ y m. h y (Contains-there x xs y m))

below_risen : (n a b : Name) → bytes_cmp n a ≡ Less → is_lt (bytes_cmp b a) ≡ false → bytes_cmp n b ≡ Less
below_risen n a b below up = by (bytes_cmp a b) refl
  where
    by : (r : Ordering) → bytes_cmp a b ≡ r → bytes_cmp n b ≡ Less
    by Less is = bytes_cmp-total.trans n a b below is
    by Equal is = subst (λ c. bytes_cmp n c ≡ Less) (bytes_cmp-exact a b is) below
    by Greater is = let turned = bytes_cmp-total.antisymm b a ∙ ap ordering_reverse is in let lt = ap is_lt turned in cc

differs_below : (n b : Name) → bytes_cmp n b ≡ Less → same_name b n ≡ false
differs_below n b below = ap is_eq (bytes_cmp-total.antisymm b n ∙ ap ordering_reverse below)

-- what is left of the items, from the first of these names on
pub record IsLeft {X : Type 0} (name : X → Name) (names : List Name) (all rest : List X) : Type 0 where
  pub ascends : IsStrictlySortedBy bytes_cmp names
  pub rises : Rises name rest
  pub named : (x : X) → Contains rest x → Contains names (name x)
  pub same : (n : Name) → Contains names n → filter (λ x. same_name (name x) n) rest ≡ filter (λ x. same_name (name x) n) all

module _ {X : Type 0} (name : X → Name) (n : Name) (ns : List Name) (above : (m : Name) → Contains ns m → bytes_cmp n m ≡ Less) where
  -- what the walk along the first name finds, where k items at the front are its own
  record Walks (k : ℕ) (rest : List X) : Type 0 where
    front : take k rest ≡ filter (λ x. same_name (name x) n) rest
    rises : Rises name (drop k rest)
    named : (x : X) → Contains (drop k rest) x → Contains ns (name x)
    same : (m : Name) → Contains ns m → filter (λ x. same_name (name x) m) (drop k rest) ≡ filter (λ x. same_name (name x) m) rest

  one_own : (x : X) (xs : List X) (k : ℕ) → same_name (name x) n ≡ true → Walks k xs → Walks (suc k) (x ∷ xs)
  one_own x xs k is w = record {
    front = ap (λ ys. x ∷ ys) w.front ∙ sym (ap (λ b. cond b (x ∷ filter (λ y. same_name (name y) n) xs) (filter (λ y. same_name (name y) n) xs)) is);
    rises = w.rises;
    named = w.named;
    same = λ m h. w.same m h ∙ sym (ap (λ b. cond b (x ∷ filter (λ y. same_name (name y) m) xs) (filter (λ y. same_name (name y) m) xs)) (other m h));
  }
    where
      other : (m : Name) → Contains ns m → same_name (name x) m ≡ false
      other m h = subst (λ a. same_name a m ≡ false) (sym (same_name-is (name x) n is)) (ap is_eq (above m h))

  none_own : (x : X) (xs : List X) → same_name (name x) n ≡ false → Rises name (x ∷ xs) → ((y : X) → Contains (x ∷ xs) y → Contains (n ∷ ns) (name y)) → Walks 0 (x ∷ xs)
  none_own x xs differs up among = record {
    front = sym (filter-none (λ y. same_name (name y) n) (x ∷ xs) (λ y h. differs_below n (name y) (past y (Contains-cons_cases x xs y h))));
    rises = up;
    named = λ y h. elim (Contains-cons_cases n ns (name y) (among y h)) [
      | inl e ↦ absurd (true≢false (sym (bytes_same (name y)) ∙ subst (λ m. same_name (name y) m ≡ false) e (differs_below n (name y) (past y (Contains-cons_cases x xs y h)))))
      | inr later ↦ later
    ];
    same = λ m h. refl;
  }
    where
      first : (n ≡ name x) ⊎ Contains ns (name x) → bytes_cmp n (name x) ≡ Less
      first (inl e) = absurd (true≢false (sym (bytes_same (name x)) ∙ subst (λ m. same_name (name x) m ≡ false) e differs))
      first (inr h) = above (name x) h

      past : (y : X) → (x ≡ y) ⊎ Contains xs y → bytes_cmp n (name y) ≡ Less
      past y (inl e) = subst (λ z. bytes_cmp n (name z) ≡ Less) e (first (Contains-cons_cases n ns (name x) (among x (Contains-here x xs))))
      past y (inr h) =
          below_risen n (name x) (name y) (first (Contains-cons_cases n ns (name x) (among x (Contains-here x xs))))
          (All-contains (λ z. is_lt (bytes_cmp (name z) (name x)) ≡ false) xs y up.0 h)

  walks : (rest : List X) → Rises name rest → ((x : X) → Contains rest x → Contains (n ∷ ns) (name x)) → Walks (prefix_len (λ x. same_name (name x) n) rest) rest
  walks [] up among = record { front = refl; rises = tt; named = λ x h. absurd (Contains-nil x h); same = λ m h. refl }
  walks (x ∷ xs) up among = by (same_name (name x) n) refl (walks xs up.1 (λ y h. among y (Contains-there x xs y h)))
    where
      by : (b : Bool) → same_name (name x) n ≡ b → Walks (prefix_len (λ x. same_name (name x) n) xs) xs → Walks (cond b (1 + prefix_len (λ x. same_name (name x) n) xs) 0) (x ∷ xs)
      by true is w = let e : suc (prefix_len (λ x. same_name (name x) n) xs) ≡ 1 + prefix_len (λ x. same_name (name x) n) xs = omega arith in
          subst (λ k. Walks k (x ∷ xs)) e (one_own x xs (prefix_len (λ x. same_name (name x) n) xs) is w)
      by false is w = none_own x xs is up among

-- One step of the walk: the k items at the front are all of the name's, and the rest is left for the names after it.
pub step : {X : Type 0} (name : X → Name) (names : List Name) (i : ℕ) (n : Name) (all : List X) (passed k : ℕ)
    → i < length names → n ≡ get_or names i n → IsLeft name (drop i names) all (drop passed all) → k ≡ prefix_len (λ x. same_name (name x) n) (drop passed all)
    → (take k (drop passed all) ≡ filter (λ x. same_name (name x) n) all) × IsLeft name (drop (i + 1) names) all (drop (passed + k) all)
step {X} name names i n all passed k lt at left count =
    let rest = drop passed all in
    let later = drop (i + 1) names in
    let is : drop i names ≡ n ∷ later = drop-cons names i n lt ∙ (λ j. sym at j ∷ drop (sym (add-one i) j) names) in
    let up : IsStrictlySortedBy bytes_cmp (n ∷ later) = subst (IsStrictlySortedBy bytes_cmp) is left.ascends in
    let w : Walks name n later (head_below bytes_cmp-total n later up) k rest =
    subst (λ j. Walks name n later (head_below bytes_cmp-total n later up) j rest) (sym count)
    (walks name n later (head_below bytes_cmp-total n later up) rest left.rises (λ x h. subst (λ ms. Contains ms (name x)) is (left.named x h))) in
    let same : (m : Name) → Contains (n ∷ later) m → filter (λ x. same_name (name x) m) rest ≡ filter (λ x. same_name (name x) m) all = λ m h. left.same m (subst (λ ms. Contains ms m) (sym is) h) in
    let back : drop (passed + k) all ≡ drop k rest = sym (drop-drop k passed all) in (
      w.front ∙ same n (Contains-here n later),
      record {
        ascends = tail_ascends bytes_cmp-total n later up;
        rises = subst (Rises name) (sym back) w.rises;
        named = λ x h. w.named x (subst (λ xs. Contains xs x) back h);
        same = λ m h. ap (filter (λ x. same_name (name x) m)) back ∙ w.same m h ∙ same m (Contains-there n later m h);
      },
    )

-- at first all is left
pub all_left : {X : Type 0} (name : X → Name) (names : List Name) (all : List X) → IsStrictlySortedBy bytes_cmp names → Rises name all → ((x : X) → Contains all x → Contains names (name x)) → IsLeft name names all all
all_left name names all ascends rises named = record { ascends = ascends; rises = rises; named = named; same = λ n h. refl }
