-- What a search of sorted links finds, and what is gathered from them.
use Rattle.std.proofs.Common.{◌≡◌, ℕ, ◌+◌, ◌<◌, ◌≤◌, List, [], ◌∷◌, ◌++◌, length, take, get_or, refl, sym, ap, ◌∙◌, subst, inl, inr}
use Rattle.std.specs.Prelude.{◌↔◌, Contains, map, cond, IsPermutation}
use Rattle.std.specs.declared.cmp.Ordering.{Ordering}
use Rattle.std.specs.declared.cmp.Ordering.TheVariants.{Less, Equal, Greater}
use Rattle.std.specs.Ordering.{is_eq}
use Rattle.std.specs.Cmp.{IsTotalOrder}
use Rattle.std.proofs.lemmas.Cmp.{on_total, then_total}
use Rattle.std.proofs.lemmas.List.{take_more, take_all}
use Rattle.std.proofs.lemmas.List.Elements.{Contains-push_cases, Contains-push, Contains-append_left}
use Rattle.std.proofs.lemmas.List.Sorted.{searchable_from_sorted, Contains-permutation, IsPermutation-sym}
use Rattle.sd_value.specs.Names.{Name, Label}
use Rattle.sd_value.specs.Members.{Contains-nil, Contains-here, Contains-there, Contains-cons_cases, Contains-map, Contains-mapped}
use Rattle.sd_value.specs.Order.{bytes_cmp}
use Rattle.sd_value.specs.OrderLaws.{bytes_cmp-total, bytes_cmp-exact, both_tie}
use Rattle.site_spec.specs.Site.{Scope}
use Rattle.constraint_spec.specs.Placed.{PlacedLink}
use Rattle.list_lookup.specs.Picked.{in_place, IsPlaced, HasOne}
use Rattle.list_lookup.proofs.Placed.{then_tied, names_tied}
use Rattle.link_index.specs.declared.gathered.QuotedLink.{QuotedLink}
use Rattle.link_index.specs.declared.gathered.ArcLink.{ArcLink}
use Rattle.link_index.specs.Links.{quoted_links, arc_links}
use Rattle.link_index.specs.Found.{quoted_name, arc_name, pair_cmp, AreQuoted, AreArcs}

pub pair_cmp-total : IsTotalOrder pair_cmp
pair_cmp-total = then_total (on_total (λ p. p.0) bytes_cmp-total) (on_total (λ p. p.1) bytes_cmp-total)

pair_cmp-exact : (p q : Name × Label) → pair_cmp p q ≡ Equal → p ≡ q
pair_cmp-exact p q h =
    let ties = both_tie (bytes_cmp p.0 q.0) _ h in
    let f = bytes_cmp-exact p.0 q.0 ties.0 in
    let l = bytes_cmp-exact p.1 q.1 ties.1 in
    λ i. (f i, l i)

pair_cmp-tied : (p q : Name × Label) → p ≡ q → pair_cmp p q ≡ Equal
pair_cmp-tied p q e = then_tied (bytes_cmp p.0 q.0) (bytes_cmp p.1 q.1) (names_tied p.0 q.0 (ap (λ r. r.0) e)) (names_tied p.1 q.1 (ap (λ r. r.1) e))

-- what is in another order has what it had
pub reordered : {X Y : Type 0} (name : X → Y) (old new : List X) (all : List Y) → map name old ≡ all → IsPermutation old new → (y : Y) → Contains (map name new) y ↔ Contains all y
reordered name old new all same moved y = (
  λ h. (let found = Contains-map name new y h in subst (Contains all) found.1 (subst (λ l. Contains l (name found.0)) same (Contains-mapped name old found.0 (Contains-permutation new old found.0 (IsPermutation-sym old new moved) found.2)))),
  λ h. (let found = Contains-map name old y (subst (λ l. Contains l y) (sym same) h) in subst (Contains (map name new)) found.1 (Contains-mapped name new found.0 (Contains-permutation old new found.0 moved found.2))),
)

-- ---- those of one function

module _ {X Y : Type 0} (name : X → Name × Y) (f : Name) where
  abbrev At : X → Ordering
  At x = bytes_cmp (name x).0 f

  of_function_more : (x : X) (xs : List X) (p : Name × Y) (o : Ordering) → At x ≡ o → Contains (map name (in_place At xs)) p ↔ (Contains (map name xs) p × (p.0 ≡ f))
      → Contains (map name (cond (is_eq o) (x ∷ in_place At xs) (in_place At xs))) p ↔ (Contains (map name (x ∷ xs)) p × (p.0 ≡ f))
  of_function_more x xs p Equal is rest = (
    λ h. elim (Contains-cons_cases (name x) (map name (in_place At xs)) p h) [
      | inl e ↦ (subst (Contains (map name (x ∷ xs))) e (Contains-here (name x) (map name xs)), sym (ap (λ r. r.0) e) ∙ bytes_cmp-exact (name x).0 f is)
      | inr back ↦ (let r = rest.0 back in (Contains-there (name x) (map name xs) p r.0, r.1))
    ],
    λ h. elim (Contains-cons_cases (name x) (map name xs) p h.0) [
      | inl e ↦ subst (Contains (map name (x ∷ in_place At xs))) e (Contains-here (name x) (map name (in_place At xs)))
      | inr back ↦ Contains-there (name x) (map name (in_place At xs)) p (rest.1 (back, h.1))
    ],
  )
  of_function_more x xs p Less is rest = (
    λ h. (let r = rest.0 h in (Contains-there (name x) (map name xs) p r.0, r.1)),
    λ h. elim (Contains-cons_cases (name x) (map name xs) p h.0) [
      | inl e ↦ (let tied = sym is ∙ names_tied (name x).0 f (ap (λ r. r.0) e ∙ h.1) in cc)
      | inr back ↦ rest.1 (back, h.1)
    ],
  )
  of_function_more x xs p Greater is rest = (
    λ h. (let r = rest.0 h in (Contains-there (name x) (map name xs) p r.0, r.1)),
    λ h. elim (Contains-cons_cases (name x) (map name xs) p h.0) [
      | inl e ↦ (let tied = sym is ∙ names_tied (name x).0 f (ap (λ r. r.0) e ∙ h.1) in cc)
      | inr back ↦ rest.1 (back, h.1)
    ],
  )

  pub of_function : (xs : List X) (p : Name × Y) → Contains (map name (in_place At xs)) p ↔ (Contains (map name xs) p × (p.0 ≡ f))
  of_function [] p = (λ h. absurd (Contains-nil p h), λ h. absurd (Contains-nil p h.0))
  of_function (x ∷ xs) p = of_function_more x xs p (At x) refl (of_function xs p)

-- ---- what is picked in a loop

module _ {X : Type 0} (key given : X → Name) (set : List Name) where
  -- what is found is what is given of items with a key in the set
  abbrev pub IsPicked : List X → List Name → Type 0
  IsPicked xs found = (y : Name) → Contains found y ↔ ((x : X) × Contains xs x × Contains set (key x) × (given x ≡ y))

  pub picked_in : (xs : List X) (i : ℕ) (x : X) (y : Name) (found more : List Name) → i < length xs → x ≡ get_or xs i x → IsPicked (take i xs) found → Contains set (key x) → y ≡ given x → more ≡ found ++ y ∷ [] → IsPicked (take (i + 1) xs) more
  picked_in xs i x y found more lt is before within gave pushed z =
      let step : take (i + 1) xs ≡ take i xs ++ x ∷ [] = take_more xs i x lt ∙ ap (λ w. take i xs ++ w ∷ []) (sym is) in (
        λ h. elim (Contains-push_cases found y z (subst (λ l. Contains l z) pushed h)) [
          | inl front ↦ (let b = (before z).0 front in (b.0, subst (λ l. Contains l b.0) (sym step) (Contains-append_left (take i xs) (x ∷ []) b.0 b.1), b.2, b.3))
          | inr e ↦ (x, subst (λ l. Contains l x) (sym step) (Contains-push (take i xs) x), within, sym gave ∙ e)
        ],
        λ h. elim (Contains-push_cases (take i xs) x h.0 (subst (λ l. Contains l h.0) step h.1)) [
          | inl front ↦ subst (λ l. Contains l z) (sym pushed) (Contains-append_left found (y ∷ []) z ((before z).1 (h.0, front, h.2, h.3)))
          | inr e ↦ subst (λ l. Contains l z) (sym pushed) (subst (λ w. Contains (found ++ y ∷ []) w) (gave ∙ ap given e ∙ h.3) (Contains-push found y))
        ],
      )

  pub picked_out : (xs : List X) (i : ℕ) (x : X) (found : List Name) → i < length xs → x ≡ get_or xs i x → IsPicked (take i xs) found → (Contains set (key x) → ⊥) → IsPicked (take (i + 1) xs) found
  picked_out xs i x found lt is before without z =
      let step : take (i + 1) xs ≡ take i xs ++ x ∷ [] = take_more xs i x lt ∙ ap (λ w. take i xs ++ w ∷ []) (sym is) in (
        λ h. (let b = (before z).0 h in (b.0, subst (λ l. Contains l b.0) (sym step) (Contains-append_left (take i xs) (x ∷ []) b.0 b.1), b.2, b.3)),
        λ h. elim (Contains-push_cases (take i xs) x h.0 (subst (λ l. Contains l h.0) step h.1)) [
          | inl front ↦ (before z).1 (h.0, front, h.2, h.3)
          | inr e ↦ absurd (without (subst (λ w. Contains set (key w)) (sym e) h.2))
        ],
      )

  pub picked_all : (xs : List X) (i : ℕ) (found : List Name) → length xs ≤ i → IsPicked (take i xs) found → IsPicked xs found
  picked_all xs i found le before = subst (λ l. IsPicked l found) (take_all i xs le) before

-- ---- of an index

module _ (q : Scope) (links : List QuotedLink) (are : AreQuoted q links) where
  pub quoted_placed : (p : Name × Label) → IsPlaced (λ k. pair_cmp (quoted_name k) p) links
  quoted_placed p = searchable_from_sorted pair_cmp-total quoted_name links p are.sorted

  -- a link is found where there is one
  pub quoted_found : (p : Name × Label) → HasOne (λ k. pair_cmp (quoted_name k) p) links ↔ Contains (quoted_links q) p
  quoted_found p = (
    λ h. (are.are p).0 (subst (Contains (map quoted_name links)) (pair_cmp-exact (quoted_name h.0) p h.2) (Contains-mapped quoted_name links h.0 h.1)),
    λ h. (let found = Contains-map quoted_name links p ((are.are p).1 h) in (found.0, found.2, pair_cmp-tied (quoted_name found.0) p found.1)),
  )

  -- the labels of links of these functions
  pub labels_found : (set found : List Name) → IsPicked (λ k. k.function.now) (λ k. k.label.now) set links found → (l : Name) → Contains found l ↔ ((f : Name) × Contains set f × Contains (quoted_links q) (f, l))
  labels_found set found picked l = (
    λ h. (let b = (picked l).0 h in (b.0.function.now, b.2, (are.are (b.0.function.now, l)).0 (subst (λ m. Contains (map quoted_name links) (b.0.function.now, m)) b.3 (Contains-mapped quoted_name links b.0 b.1)))),
    λ h. (let k = Contains-map quoted_name links (h.0, l) ((are.are (h.0, l)).1 h.2) in (picked l).1 (k.0, k.2, subst (Contains set) (sym (ap (λ p. p.0) k.1)) h.1, ap (λ p. p.1) k.1)),
  )

  -- the functions of links by these labels
  pub functions_found : (set found : List Name) → IsPicked (λ k. k.label.now) (λ k. k.function.now) set links found → (f : Name) → Contains found f ↔ ((l : Name) × Contains set l × Contains (quoted_links q) (f, l))
  functions_found set found picked f = (
    λ h. (let b = (picked f).0 h in (b.0.label.now, b.2, (are.are (f, b.0.label.now)).0 (subst (λ g. Contains (map quoted_name links) (g, b.0.label.now)) b.3 (Contains-mapped quoted_name links b.0 b.1)))),
    λ h. (let k = Contains-map quoted_name links (f, h.0) ((are.are (f, h.0)).1 h.2) in (picked f).1 (k.0, k.2, subst (Contains set) (sym (ap (λ p. p.1) k.1)) h.1, ap (λ p. p.0) k.1)),
  )

module _ (q : Scope) (links : List ArcLink) (are : AreArcs q links) where
  pub arcs_placed : (f : Name) → IsPlaced (λ k. bytes_cmp k.function.now f) links
  arcs_placed f = searchable_from_sorted bytes_cmp-total (λ k. k.function.now) links f are.sorted

  pub arcs_found : (f : Name) (part : List ArcLink) → part ≡ in_place (λ k. bytes_cmp k.function.now f) links → (p : Name × PlacedLink) → Contains (map arc_name part) p ↔ (Contains (arc_links q) p × (p.0 ≡ f))
  arcs_found f part is p =
      let both = of_function arc_name f links p in (
        λ h. (let r = both.0 (subst (λ l. Contains (map arc_name l) p) is h) in ((are.are p).0 r.0, r.1)),
        λ h. subst (λ l. Contains (map arc_name l) p) (sym is) (both.1 ((are.are p).1 h.0, h.1)),
      )
