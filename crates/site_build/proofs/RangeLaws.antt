-- The ranges of pages' links: one link more, and what lies outside a range.
use Rattle.std.proofs.Common.{◌≡◌, ◌+◌, ◌-◌, ◌<◌, ◌≤◌, ℕ, Bool, true, false, cond, List, [], ◌∷◌, ◌++◌, Option, Some, None, length, take, drop, get_or, refl, sym, ap, ◌∙◌, subst, inl, inr, arith, length-take, length-drop, append-nil}
use Rattle.std.specs.Prelude.{slice_get}
use Rattle.std.specs.Ordering.{eq_by_cmp, is_eq, ordering_then}
use Rattle.std.specs.declared.cmp.Ordering.{Ordering}
use Rattle.std.specs.declared.cmp.Ordering.TheVariants.{Less, Equal, Greater}
use Rattle.std.specs.List.{filter, All, AllWithin}
use Rattle.std.proofs.lemmas.List.{get_or-take, get_or-drop, take-append-drop}
use Rattle.std.proofs.lemmas.List.Elements.{All-head, All-tail, filter-append}
use Rattle.std.proofs.lemmas.Option.{slice_get-get_or}
use Rattle.graph_spec.specs.DataGraph.{Name}
use Rattle.list_lookup.specs.Picked.{in_place}
use Rattle.site_build.specs.Places.{at_link}
use Rattle.std.specs.Cmp.{Equal-is}
use Rattle.std.proofs.lemmas.Bool.{cases_lt}
use Rattle.std.proofs.lemmas.Cmp.{eq_by_cmp_equiv}
use Rattle.sd_value.specs.declared.Term.{Term}
use Rattle.sd_value.specs.Order.{bytes_cmp, term_cmp}
use Rattle.sd_value.specs.OrderLaws.{term_cmp-exact, term_cmp-total}
use Rattle.site_build.specs.declared.ordered.Joined.{Joined}
use Rattle.site_build.specs.declared.ranges.Range.{Range}
use Rattle.site_build.specs.Ranges.{start_of, AreRanges}

same_term : (t u : Term) → eq_by_cmp term_cmp t u ≡ true → t ≡ u
same_term t u h = term_cmp-exact t u ((Equal-is (term_cmp t u)).0 h)

itself : (t : Term) → eq_by_cmp term_cmp t t ≡ true
itself t = (eq_by_cmp_equiv term_cmp-total).refl t

some_range : (a b : Range) → Some a ≡ Some b → a ≡ b
some_range a b h = cc

none_range : (r : Range) → None ≡ Some r → ⊥
none_range r h = cc

module _ (links : List Joined) (n : ℕ) (at new : Term → Option Range) (from : Joined) (is_there : slice_get links n ≡ Some from) (are : AreRanges links n at)
    (grows : (t : Term) → new t ≡ cond (eq_by_cmp term_cmp from.from t) (Some (record { start = start_of (at from.from) n; stop = n + 1 })) (at t)) where
  start_fits : (o : Option Range) → at from.from ≡ o → start_of o n ≤ n
  start_fits None h = omega arith
  start_fits (Some r) h = let f = are.fits from.from r h in omega (arith, f.0, f.1)

  abbrev now : Range
  now = record { start = start_of (at from.from) n; stop = n + 1 }

  taken : (t : Term) → eq_by_cmp term_cmp from.from t ≡ true → new t ≡ Some now
  taken t h = grows t ∙ ap (λ b. cond b (Some now) (at t)) h

  left : (t : Term) → eq_by_cmp term_cmp from.from t ≡ false → new t ≡ at t
  left t h = grows t ∙ ap (λ b. cond b (Some now) (at t)) h

  fits : (t : Term) (r : Range) (b : Bool) → eq_by_cmp term_cmp from.from t ≡ b → new t ≡ Some r → (r.start ≤ r.stop) × (r.stop ≤ n + 1)
  fits t r true h is =
      let low = start_fits (at from.from) refl in
      let bounds : (now.start ≤ now.stop) × (now.stop ≤ n + 1) = (omega (arith, low), omega arith) in
      subst (λ (x : Range). (x.start ≤ x.stop) × (x.stop ≤ n + 1)) (some_range now r (sym (taken t h) ∙ is)) bounds
  fits t r false h is = let f = are.fits t r (sym (left t h) ∙ is) in (f.0, omega (arith, f.1))

  start_at : (o : Option Range) (r : Range) → o ≡ Some r → start_of o n ≡ r.start
  start_at o r h = ap (λ x. start_of x n) h

  earlier : (k : ℕ) (j : Joined) → k < n → slice_get links k ≡ Some j → (b : Bool) → eq_by_cmp term_cmp from.from j.from ≡ b → (r : Range) × (new j.from ≡ Some r) × (r.start ≤ k) × (k < r.stop)
  earlier k j l is true h =
      let (r, at_r, low, high) = are.found k j l is in
      let start : now.start ≡ r.start = start_at (at from.from) r (ap at (same_term from.from j.from h) ∙ at_r) in
      (now, taken j.from h, omega (arith, start, low), omega (arith, l))
  earlier k j l is false h = let (r, at_r, low, high) = are.found k j l is in (r, left j.from h ∙ at_r, low, high)

  joined_is : (a b : Joined) → Some a ≡ Some b → a ≡ b
  joined_is a b h = cc

  last : (k : ℕ) (j : Joined) → k ≡ n → slice_get links k ≡ Some j → (r : Range) × (new j.from ≡ Some r) × (r.start ≤ k) × (k < r.stop)
  last k j e is =
      let same : from ≡ j = joined_is from j (sym is_there ∙ sym (ap (slice_get links) e) ∙ is) in
      let tied : eq_by_cmp term_cmp from.from j.from ≡ true = ap (λ (x : Joined). eq_by_cmp term_cmp from.from x.from) (sym same) ∙ itself from.from in
      let low = start_fits (at from.from) refl in
      (now, taken j.from tied, omega (arith, low, e), omega (arith, e))

  -- one more link
  pub ranges_more : AreRanges links (n + 1) new
  ranges_more = record {
    fits = λ t r is. fits t r (eq_by_cmp term_cmp from.from t) refl is;
    found = λ k j l is. elim (cases_lt k n) [
      | inl below ↦ earlier k j below is (eq_by_cmp term_cmp from.from j.from) refl
      | inr up ↦ last k j (omega (arith, l, up)) is
    ];
  }

filter-none : {X : Type 0} (test : X → Bool) (xs : List X) → All (λ x. test x ≡ false) xs → filter test xs ≡ []
filter-none test [] h = refl
filter-none test (x ∷ xs) h =
    ap (λ b. cond b (x ∷ filter test xs) (filter test xs)) (All-head (λ y. test y ≡ false) x xs h)
    ∙ filter-none test xs (All-tail (λ y. test y ≡ false) x xs h)

-- what lies outside a part passes no test that none outside passes
filter-part : {X : Type 0} (test : X → Bool) (xs : List X) (lo hi : ℕ) → lo ≤ hi → hi ≤ length xs
    → AllWithin (λ x. test x ≡ false) xs 0 lo → AllWithin (λ x. test x ≡ false) xs hi (length xs)
    → filter test (take (hi - lo) (drop lo xs)) ≡ filter test xs
filter-part {X} test xs lo hi up fits below above =
    let front : All (λ x. test x ≡ false) (take lo xs) = λ k d l.
    let m : k < lo = omega (arith, length-take {A = X}) in
    rw (get_or-take lo xs k d m) (below k d (omega arith) m) in
    let back : All (λ x. test x ≡ false) (drop (hi - lo) (drop lo xs)) = λ k d l.
    rw (get_or-drop (hi - lo) (drop lo xs) k d, get_or-drop lo xs (hi - lo + k) d)
    (above (lo + (hi - lo + k)) d (omega arith) (omega (arith, length-drop {A = X}))) in
    let part = take (hi - lo) (drop lo xs) in
    sym (append-nil (filter test part))
    ∙ sym (ap (λ ys. filter test part ++ ys) (filter-none test (drop (hi - lo) (drop lo xs)) back))
    ∙ sym (filter-append test part (drop (hi - lo) (drop lo xs)))
    ∙ ap (filter test) (take-append-drop (hi - lo) (drop lo xs))
    ∙ sym (ap (λ ys. ys ++ filter test (drop lo xs)) (filter-none test (take lo xs) front))
    ∙ sym (filter-append test (take lo xs) (drop lo xs))
    ∙ ap (filter test) (take-append-drop lo xs)

-- another page's link lies in no place of this page
elsewhere : (from : Term) (label : Name) (j : Joined) → (j.from ≡ from → ⊥) → is_eq (at_link from label j) ≡ false
elsewhere from label j other = by (term_cmp j.from from) refl
  where
    by : (o : Ordering) → term_cmp j.from from ≡ o → is_eq (ordering_then o (bytes_cmp j.label label)) ≡ false
    by Less h = refl
    by Equal h = absurd (other (term_cmp-exact j.from from h))
    by Greater h = refl

module _ (links : List Joined) (at : Term → Option Range) (from : Term) (label : Name) (are : AreRanges links (length links) at) where
  place : Joined → Ordering
  place = at_link from label

  -- a link of the page stands in its range
  inside : (r : Range) → at from ≡ Some r → (k : ℕ) (d : Joined) → k < length links → (get_or links k d).from ≡ from → (r.start ≤ k) × (k < r.stop)
  inside r is k d l same =
      let (q, at_q, low, high) = are.found k (get_or links k d) l (slice_get-get_or links k d l) in
      let one : q ≡ r = some_range q r (sym at_q ∙ ap at same ∙ is) in
      subst (λ (x : Range). (x.start ≤ k) × (k < x.stop)) one (low, high)

  -- the links of a page's range are picked from as all links are
  pub picked_in_range : (r : Range) → at from ≡ Some r → in_place (at_link from label) (take (r.stop - r.start) (drop r.start links)) ≡ in_place (at_link from label) links
  picked_in_range r is =
      let f = are.fits from r is in
      filter-part (λ j. is_eq (at_link from label j)) links r.start r.stop f.0 f.1
      (λ k d l m. elsewhere from label (get_or links k d) (λ same. let s = inside r is k d (omega (arith, f.0, f.1)) same in absurd (omega (arith, s.0))))
      (λ k d l m. elsewhere from label (get_or links k d) (λ same. let s = inside r is k d m same in absurd (omega (arith, s.1))))

  -- no link starts from a page without a range
  pub none_picked : at from ≡ None → in_place (at_link from label) links ≡ []
  none_picked is = filter-none (λ j. is_eq (at_link from label j)) links (λ k d l. elsewhere from label (get_or links k d) (λ same. lost k d l same))
    where
      lost : (k : ℕ) (d : Joined) → k < length links → (get_or links k d).from ≡ from → ⊥
      lost k d l same = let (q, at_q, low, high) = are.found k (get_or links k d) l (slice_get-get_or links k d l) in none_range q (sym is ∙ sym (ap at same) ∙ at_q)
