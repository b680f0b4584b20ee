-- Numbers of templates and of blocks.
use Rattle.std.specs.Prelude.{◌≡◌, ℕ, zero, suc, ◌+◌, ◌<◌, ◌≤◌, Bool, true, false, Option, Some, None, if◌then◌else◌, List, [], ◌∷◌, ◌++◌, length, get_or, slice_get, drop, map, All, Contains}
use Rattle.std.specs.List.Sorted.{IsStrictlySortedBy}
use Rattle.std.specs.List.{AllByRecursion}
use Rattle.std.specs.Ordering.{nat_cmp}
use Rattle.std.specs.declared.cmp.Ordering.TheVariants.{Less}
use Rattle.std.proofs.Common.{arith, refl, sym, ap, ◌∙◌, subst, inl, inr, drop-cons, append_assoc, append-nil, drop_of_length-le}
use Rattle.std.proofs.lemmas.List.Elements.{All-head, All-tail}
use Rattle.sd_value.specs.Order.{bytes_cmp}
use Rattle.sd_value.specs.Ascending.{ListsExactly}
use Rattle.sd_value.specs.AscendingLaws.{listed_as}
use Rattle.sd_value.specs.Members.{Contains-nil, Contains-cons_cases, Contains-here, Contains-there}
use Rattle.graph_spec.specs.DataGraph.{Name}
use Rattle.query_spec.specs.Query.{Body as Block}
use Rattle.query_spec.specs.Mentions.{same_name}
use Rattle.site_spec.specs.Site.{SomeOf}
use Rattle.query_blocks.specs.declared.QueryBlock.{QueryBlock}
use Rattle.query_blocks.specs.Blocks.{body_of}
use Rattle.tmpl.specs.declared.NamedTemplate.{NamedTemplate}
use Rattle.tmpl.specs.Reading.{named_of}
use Rattle.tmpl.specs.Body.{Named}
use Rattle.page_spec.specs.Pieces.{First}
use Rattle.edit_laws.proofs.Guards.{by_test}
use Rattle.edit_touches.proofs.Decides.{same}
use Rattle.edit_footprint.specs.Numbers.{number_of, numbers_from}

-- ---- templates

differs : (x y : Name) → same_name x y ≡ false → x ≡ y → ⊥
differs x y f e = let t = (same x y).1 e in cc

same_number : {j k : ℕ} → Some j ≡ Some k → j ≡ k
same_number e = cc

pub some_number : (function : Name) (ns : List Named) (k : ℕ) → Some k ≡ number_of function ns
    → First (λ name. name ≡ function) ns k
some_number function [] k e = let impossible : ◌≡◌ {A = Option ℕ} None (Some k) = sym e in let no_way : ⊥ = cc in
    absurd no_way
some_number function (n ∷ ns) k e =
    by_test (same_name n.name function) (First (λ name. name ≡ function) (n ∷ ns) k)
    (λ t. inl ((same n.name function).0 t, let is : Some k ≡ Some n.number = rw t at e in sym (same_number is)))
    (λ f. inr (differs n.name function f, some_number function ns k (rw f at e)))

pub no_number : (function : Name) (ns : List Named) → None ≡ number_of function ns → (k : ℕ)
    → First (λ name. name ≡ function) ns k → ⊥
no_number function [] e k h = h
no_number function (n ∷ ns) e k h =
    by_test (same_name n.name function) ⊥
    (λ t. let impossible : ◌≡◌ {A = Option ℕ} None (Some n.number) = rw t at e in cc)
    (λ f. elim h [ inl at ↦ differs n.name function f at.0 | inr rest ↦ no_number function ns (rw f at e) k rest.1 ])

pub numbered : (P : List ℕ → Type 0) (ns : List NamedTemplate) (m k : ℕ) → All (λ (n : NamedTemplate). n.template < m)
    ns → First P (map named_of ns) k → k < m
numbered P [] m k all h = absurd h
numbered P (n ∷ ns) m k all (inl h) = subst (λ j. j < m) h.1 (All-head (λ (n : NamedTemplate). n.template < m) n ns all)
numbered P (n ∷ ns) m k all (inr h) = numbered P ns m k (All-tail (λ (n : NamedTemplate). n.template < m) n ns all) h.1

-- ---- blocks

one_step : (test : Block → Bool) (blocks : List QueryBlock) (i : ℕ) (x : QueryBlock) (n : ℕ) → i < length blocks
    → x ≡ get_or blocks i x
    → numbers_from test n (map body_of (drop i blocks)) ≡ (if test (body_of x) then n ∷ numbers_from test (n + 1)
    (map body_of (drop (i + 1) blocks)) else numbers_from test (n + 1) (map body_of (drop (i + 1) blocks)))
one_step test blocks i x n lt is =
    let split : drop i blocks ≡ x ∷ drop (suc i) blocks = drop-cons blocks i x lt
    ∙ ap (λ (y : QueryBlock). y ∷ drop (suc i) blocks) (sym is) in
    let m : suc n ≡ n + 1 = omega arith in
    let j : suc i ≡ i + 1 = omega arith in
    ap (λ l. numbers_from test n (map body_of l)) split
    ∙ (λ k. if test (body_of x) then n ∷ numbers_from test (m k) (map body_of (drop (j k) blocks))
    else numbers_from test (m k) (map body_of (drop (j k) blocks)))

pub step_in : (test : Block → Bool) (blocks : List QueryBlock) (i : ℕ) (x : QueryBlock) (n : ℕ) (front all : List ℕ)
    → i < length blocks → x ≡ get_or blocks i x → test (body_of x) ≡ true
    → front ++ numbers_from test n (map body_of (drop i blocks)) ≡ all → (front ++ n ∷ []) ++ numbers_from test (n + 1)
    (map body_of (drop (i + 1) blocks)) ≡ all
step_in test blocks i x n front all lt is t h =
    let rest : List ℕ = numbers_from test (n + 1) (map body_of (drop (i + 1) blocks)) in
    let one : numbers_from test n (map body_of (drop i blocks)) ≡ n ∷ rest = one_step test blocks i x n lt is
    ∙ ap (λ b. if b then n ∷ rest else rest) t in
    append_assoc front (n ∷ []) rest ∙ ap (λ l. front ++ l) (sym one) ∙ h

pub step_out : (test : Block → Bool) (blocks : List QueryBlock) (i : ℕ) (x : QueryBlock) (n : ℕ) (front all : List ℕ)
    → i < length blocks → x ≡ get_or blocks i x → test (body_of x) ≡ false
    → front ++ numbers_from test n (map body_of (drop i blocks)) ≡ all → front ++ numbers_from test (n + 1)
    (map body_of (drop (i + 1) blocks)) ≡ all
step_out test blocks i x n front all lt is f h =
    let rest : List ℕ = numbers_from test (n + 1) (map body_of (drop (i + 1) blocks)) in
    let one : numbers_from test n (map body_of (drop i blocks)) ≡ rest = one_step test blocks i x n lt is
    ∙ ap (λ b. if b then n ∷ rest else rest) f in
    ap (λ l. front ++ l) (sym one) ∙ h

pub step_end : (test : Block → Bool) (blocks : List QueryBlock) (i n : ℕ) (front all : List ℕ) → length blocks ≤ i
    → front ++ numbers_from test n (map body_of (drop i blocks)) ≡ all → front ≡ all
step_end test blocks i n front all le h =
    sym (append-nil front) ∙ ap (λ l. front ++ numbers_from test n (map body_of l)) (sym (drop_of_length-le blocks le))
    ∙ h

-- ---- the numbers ascend, and are exactly those of the blocks that pass

below : (x y : ℕ) → x < y → nat_cmp x y ≡ Less
below x y lt = grind arith

module _ (test : Block → Bool) where
  all_from : (m n : ℕ) (bs : List Block) → m < n → AllByRecursion (λ y. nat_cmp m y ≡ Less) (numbers_from test n bs)
  all_from m n [] lt = tt
  all_from m n (b ∷ bs) lt =
      by_test (test b) (AllByRecursion (λ y. nat_cmp m y ≡ Less) (numbers_from test n (b ∷ bs)))
      (λ t. rw t (below m n lt, all_from m (suc n) bs (omega arith)))
      (λ f. rw f (all_from m (suc n) bs (omega arith)))

  ascends : (n : ℕ) (bs : List Block) → IsStrictlySortedBy nat_cmp (numbers_from test n bs)
  unfolding IsStrictlySortedBy
  ascends n [] = tt
  ascends n (b ∷ bs) =
      by_test (test b) (IsStrictlySortedBy nat_cmp (numbers_from test n (b ∷ bs)))
      (λ t. rw t (all_from n (suc n) bs (omega arith), ascends (suc n) bs))
      (λ f. rw f (ascends (suc n) bs))

  Passes : ℕ → List Block → ℕ → Type 0
  Passes n bs i = (k : ℕ) × (i ≡ n + k) × ((b : Block) × (slice_get bs k ≡ Some b) × (test b ≡ true))

  passes_more : (n : ℕ) (b : Block) (bs : List Block) (i : ℕ) → Passes (suc n) bs i → Passes n (b ∷ bs) i
  unfolding Passes
  passes_more n b bs i (k, is, found) = (suc k, omega arith, found)

  sound : (n : ℕ) (bs : List Block) (i : ℕ) → Contains (numbers_from test n bs) i → Passes n bs i
  unfolding Passes
  sound n [] i c = absurd (Contains-nil i c)
  sound n (b ∷ bs) i c =
      by_test (test b) (Passes n (b ∷ bs) i)
      (λ t. (let d : Contains (n ∷ numbers_from test (suc n) bs) i = rw t at c in
      elim (Contains-cons_cases n (numbers_from test (suc n) bs) i d) [
        | inl e ↦ (0, omega arith, (b, refl, t))
        | inr r ↦ passes_more n b bs i (sound (suc n) bs i r)
      ]))
      (λ f. passes_more n b bs i (sound (suc n) bs i (rw f at c)))

  complete : (n : ℕ) (bs : List Block) (k : ℕ) (b : Block) → slice_get bs k ≡ Some b → test b ≡ true
      → Contains (numbers_from test n bs) (n + k)
  complete n [] k b is t = let impossible : ◌≡◌ {A = Option Block} None (Some b) = is in let no_way : ⊥ = cc in
      absurd no_way
  complete n (a ∷ bs) zero b is t =
      let e : a ≡ b = cc in
      let at_a : test a ≡ true = ap test e ∙ t in
      let here : n ≡ n + 0 = omega arith in
      rw at_a (subst (Contains (n ∷ numbers_from test (suc n) bs)) here
      (Contains-here n (numbers_from test (suc n) bs)))
  complete n (a ∷ bs) (suc k) b is t =
      let later : suc n + k ≡ n + suc k = omega arith in
      let rest : Contains (numbers_from test (suc n) bs) (n + suc k) = subst (Contains (numbers_from test (suc n) bs))
      later (complete (suc n) bs k b is t) in
      by_test (test a) (Contains (numbers_from test n (a ∷ bs)) (n + suc k))
      (λ u. rw u (Contains-there n (numbers_from test (suc n) bs) (n + suc k) rest))
      (λ f. rw f rest)

  pub numbers_exact : (bs : List Block) → ListsExactly nat_cmp (λ i. (b : Block) × (slice_get bs i ≡ Some b)
      × (test b ≡ true)) (numbers_from test 0 bs)
  unfolding Passes
  numbers_exact bs = record {
    ascending = ascends 0 bs;
    sound = λ i c. (let found = sound 0 bs i c in let same : found.0 ≡ i = (let e = found.1 in omega arith) in subst
        (λ j. (b : Block) × (slice_get bs j ≡ Some b) × (test b ≡ true)) same found.2);
    complete = λ i (b, is, t). (let same : 0 + i ≡ i = omega arith in subst (Contains (numbers_from test 0 bs)) same
        (complete 0 bs i b is t));
  }

-- ---- lists without repeats

pub listed_some : (names xs : List Name) → ListsExactly bytes_cmp (Contains names) xs → ListsExactly bytes_cmp
    (λ l. SomeOf (λ m. m ≡ l) names) xs
listed_some names xs h =
    listed_as h
    (λ l c. record { item = l; within = c; holds = refl })
    (λ l s. subst (Contains names) s.holds s.within)
