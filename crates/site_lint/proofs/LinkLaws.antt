-- Which labels the links of a function may carry, by what an index has of the query's links.
use Rattle.std.proofs.Common.{◌≡◌, ◌↔◌, ℕ, ◌+◌, ◌<◌, ◌≤◌, Bool, true, false, List, [], ◌∷◌, ◌++◌, length, take, get_or, refl, sym, ap, ◌∙◌, subst, inl, inr}
use Rattle.std.specs.Prelude.{◌⊎◌, IsTrue, not, Contains, map}
use Rattle.std.proofs.lemmas.List.{take_more, take_all}
use Rattle.std.proofs.lemmas.List.Elements.{Contains-push_cases, Contains-push, Contains-append_left}
use Rattle.sd_value.specs.Names.{Name, Label}
use Rattle.sd_value.specs.Members.{Contains-nil, Contains-here, Contains-cons_cases, Contains-map, Contains-mapped, Contains-flat_map, Contains-flat_mapped}
use Rattle.query_spec.specs.Query.{Target, plain, made, summed, LinkLabel, quoted, label_variable}
use Rattle.site_spec.specs.Site.{Scope, SomeOf}
use Rattle.constraint_spec.specs.Placed.{PlacedLink, links_of}
use Rattle.constraint_spec.specs.Certificate.{IsOf, MayBe}
use Rattle.constraint_laws.proofs.Links.{numbered_within, number_of}
use Rattle.lint_spec.specs.Mistakes.{NoLinkOf}
use Rattle.link_index.specs.declared.gathered.ArcLink.{ArcLink}
use Rattle.link_index.specs.Links.{quoted_by, quoted_of, arc_by, arc_of, quoted_links, arc_links, Carries}
use Rattle.link_index.specs.Found.{arc_name}
use Rattle.site_lint.specs.Links.{ArcCarries, HasArc, AreLabelsOf, AreQuotedBy, AreCarrying}

one_item : {X : Type 0} (y x : X) → Contains (y ∷ []) x → y ≡ x
one_item y x h = elim (Contains-cons_cases y [] x h) [ inl e ↦ e | inr none ↦ absurd (Contains-nil x none) ]

-- ---- a link by a quoted label, and one by a variable

quoted_back : (t : Target) (label : LinkLabel) (f : Name) (l : Label) → Contains (quoted_by t label) (f, l) → IsOf f t × (label ≡ quoted l)
quoted_back (made t) (quoted m) f l h =
    let e : (t.function, m) ≡ (f, l) = one_item (t.function, m) (f, l) h in
    ((t, refl, ap (λ (p : Name × Label). p.0) e), ap (λ (p : Name × Label). quoted p.1) e)
quoted_back (made t) (label_variable a) f l h = absurd (Contains-nil _ h)
quoted_back (plain o) (quoted m) f l h = absurd (Contains-nil _ h)
quoted_back (plain o) (label_variable a) f l h = absurd (Contains-nil _ h)
quoted_back (summed s) label f l h = absurd (Contains-nil _ h)

arc_back : (j : PlacedLink) (t : Target) (label : LinkLabel) (f : Name) (k : PlacedLink) → Contains (arc_by j t label) (f, k) → j ≡ k
arc_back j (made t) (label_variable a) f k h =
    let e : (t.function, j) ≡ (f, k) = one_item (t.function, j) (f, k) h in
    ap (λ (p : Name × PlacedLink). p.1) e
arc_back j (made t) (quoted m) f k h = absurd (Contains-nil _ h)
arc_back j (plain o) (quoted m) f k h = absurd (Contains-nil _ h)
arc_back j (plain o) (label_variable a) f k h = absurd (Contains-nil _ h)
arc_back j (summed s) label f k h = absurd (Contains-nil _ h)

-- a link that may carry the label is one of them
one_of_both : (version : ℕ) (k : PlacedLink) (t : Target) (label : LinkLabel) (f : Name) (l : Label) → IsOf f t → MayBe version l k.conditions label → Contains (quoted_by t label) (f, l) ⊎ Contains (arc_by k t label) (f, k)
one_of_both version k (made t) (quoted m) f l of may =
    let is = of.1 in
    let same : t ≡ of.0 = cc in
    let fn : t.function ≡ f = ap (λ s. s.function) same ∙ of.2 in
    let e : (t.function, m) ≡ (f, l) = λ i. (fn i, may i) in
    inl (subst (Contains ((t.function, m) ∷ [])) e (Contains-here (t.function, m) []))
one_of_both version k (made t) (label_variable a) f l of may =
    let is = of.1 in
    let same : t ≡ of.0 = cc in
    let fn : t.function ≡ f = ap (λ s. s.function) same ∙ of.2 in
    let e : (t.function, k) ≡ (f, k) = λ i. (fn i, k) in
    inr (subst (Contains ((t.function, k) ∷ [])) e (Contains-here (t.function, k) []))
one_of_both version k (plain o) label f l of may = let is = of.1 in absurd cc
one_of_both version k (summed s) label f l of may = let is = of.1 in absurd cc

module _ (q : Scope) where
  carried : (f : Name) (l : Label) (k : PlacedLink) → NoLinkOf q f l → Contains (links_of q) k → Carries q.version f l k → ⊥
  carried f l k none m c = let at = number_of (links_of q) k m in none at.0 k (record { numbered = at.1; starts = c.0; label = c.1 })

  -- no link of the function may carry the label: none has it quoted, and none by a variable may
  pub none_by : (f : Name) (l : Label) → NoLinkOf q f l ↔ ((Contains (quoted_links q) (f, l) → ⊥) × (HasArc q f l → ⊥))
  none_by f l = (
    λ none. (
      λ h. (
          let at = Contains-flat_map quoted_of (links_of q) (f, l) h in
          let k : PlacedLink = at.0 in
          let both = quoted_back k.link.source k.link.label f l at.2 in
          carried f l k none at.1 (both.0, subst (MayBe q.version l k.conditions) (sym both.1) refl)
          ),
      λ h. (
          let at = Contains-flat_map arc_of (links_of q) (f, h.0) h.1 in
          let same : at.0 ≡ h.0 = arc_back at.0 at.0.link.source at.0.link.label f h.0 at.2 in
          carried f l h.0 none (subst (Contains (links_of q)) same at.1) h.2
          ),
    ),
    λ neither number k may. (
        let m = numbered_within (links_of q) number k may.numbered in
        elim (one_of_both q.version k k.link.source k.link.label f l may.starts may.label) [
          | inl h ↦ neither.0 (Contains-flat_mapped quoted_of (links_of q) k (f, l) m h)
          | inr h ↦ neither.1 (k, Contains-flat_mapped arc_of (links_of q) k (f, k) m h, (may.starts, may.label))
        ]
        ),
  )

  -- one of the function's links by variables may carry the label
  pub arc_of_function : (f : Name) (l : Label) (part : List ArcLink) → ((p : Name × PlacedLink) → Contains (map arc_name part) p ↔ (Contains (arc_links q) p × (p.0 ≡ f))) → SomeOf (ArcCarries q.version l) part ↔ HasArc q f l
  arc_of_function f l part are = (
    λ s. (
        let p : Name × PlacedLink = arc_name s.item in
        let there = (are p).0 (Contains-mapped arc_name part s.item s.within) in
        (p.1, subst (λ (g : Name). Contains (arc_links q) (g, p.1)) there.1 there.0, subst (λ (g : Name). Carries q.version g l p.1) there.1 s.holds)
        ),
    λ h. (
        let a = Contains-map arc_name part (f, h.0) ((are (f, h.0)).1 (h.1, refl)) in
        record { item = a.0; within = a.2; holds = subst (λ (p : Name × PlacedLink). Carries q.version p.0 l p.1) (sym a.1) h.2 }
        ),
  )

  -- one of the links by variables is of one of the functions, and may carry the label
  pub arc_of_some : (functions : List Name) (l : Label) (arcs : List ArcLink) → ((p : Name × PlacedLink) → Contains (map arc_name arcs) p ↔ Contains (arc_links q) p) → SomeOf (λ a. Contains functions a.function.now × ArcCarries q.version l a) arcs ↔ ((f : Name) × Contains functions f × HasArc q f l)
  arc_of_some functions l arcs are = (
    λ s. (
        let p : Name × PlacedLink = arc_name s.item in
        (p.0, s.holds.0, (p.1, (are p).0 (Contains-mapped arc_name arcs s.item s.within), s.holds.1))
        ),
    λ h. (
        let k = h.2 in
        let a = Contains-map arc_name arcs (h.0, k.0) ((are (h.0, k.0)).1 k.1) in
        record {
          item = a.0;
          within = a.2;
          holds = (subst (Contains functions) (sym (ap (λ (p : Name × PlacedLink). p.0) a.1)) h.1, subst (λ (p : Name × PlacedLink). Carries q.version p.0 l p.1) (sym a.1) k.2);
        }
        ),
  )

  -- ---- answers

  false_not : (b : Bool) (P : Type 0) → b ≡ false → (P → ⊥) → IsTrue b ↔ P
  false_not b P is n = (λ t. (let no = is in cc), λ p. absurd (n p))

  not_by : (some : Bool) (P Q : Type 0) → IsTrue some ↔ P → (Q ↔ (P → ⊥)) → IsTrue (not some) ↔ Q
  not_by true P Q both same = (λ t. absurd cc, λ z. absurd (same.0 z (both.0 refl)))
  not_by false P Q both same = (λ t. same.1 (λ p. (let yes = both.1 p in cc)), λ z. refl)

  -- a quoted label answers
  pub has_by_quoted : (f : Name) (l : Label) → Contains (quoted_links q) (f, l) → IsTrue false ↔ NoLinkOf q f l
  has_by_quoted f l h = false_not false (NoLinkOf q f l) refl (λ none. ((none_by f l).0 none).0 h)

  -- the links by variables answer
  pub has_by_arcs : (f : Name) (l : Label) (some : Bool) → (Contains (quoted_links q) (f, l) → ⊥) → IsTrue some ↔ HasArc q f l → IsTrue (not some) ↔ NoLinkOf q f l
  has_by_arcs f l some without both = not_by some (HasArc q f l) (NoLinkOf q f l) both (λ none. ((none_by f l).0 none).1, λ n. (none_by f l).1 (without, n))

  abbrev NoneOf : List Name → Label → Type 0
  NoneOf functions l = (f : Name) → Contains functions f → NoLinkOf q f l

  pub some_by_quoted : (functions labels : List Name) (l : Label) → AreLabelsOf q functions labels → Contains labels l → IsTrue false ↔ NoneOf functions l
  some_by_quoted functions labels l are h =
      let at = (are l).0 h in
      false_not false (NoneOf functions l) refl (λ none. ((none_by at.0 l).0 (none at.0 at.1)).0 at.2)

  pub some_by_arcs : (functions labels : List Name) (l : Label) (some : Bool) → AreLabelsOf q functions labels → (Contains labels l → ⊥) → IsTrue some ↔ ((f : Name) × Contains functions f × HasArc q f l) → IsTrue (not some) ↔ NoneOf functions l
  some_by_arcs functions labels l some are without both =
      not_by some ((f : Name) × Contains functions f × HasArc q f l) (NoneOf functions l) both (
        λ none h. ((none_by h.0 l).0 (none h.0 h.1)).1 h.2,
        λ n f m. (none_by f l).1 (λ at. without ((are l).1 (f, m, at)), λ at. n (f, m, at)),
      )

  -- a function from which no word goes on
  pub nowhere : (f : Name) (further by_label by_arc : List Name) → AreQuotedBy q further by_label → AreCarrying q further by_arc
      → ((Contains by_label f → ⊥) × (Contains by_arc f → ⊥)) ↔ ((l : Label) → Contains further l → NoLinkOf q f l)
  nowhere f further by_label by_arc labels arcs = (
    λ n l m. (none_by f l).1 (λ at. n.0 ((labels f).1 (l, m, at)), λ at. n.1 ((arcs f).1 (l, m, at))),
    λ none. (
      λ h. (let at = (labels f).0 h in ((none_by f at.0).0 (none at.0 at.1)).0 at.2),
      λ h. (let at = (arcs f).0 h in ((none_by f at.0).0 (none at.0 at.1)).1 at.2),
    ),
  )

-- ---- what is found in a loop

-- the functions of links by variables that may carry one of the labels
module _ (version : ℕ) (labels : List Label) where
  abbrev pub CarriesSome : ArcLink → Type 0
  CarriesSome a = SomeOf (λ l. ArcCarries version l a) labels

  abbrev pub AreFound : List ArcLink → List Name → Type 0
  AreFound arcs found = (f : Name) → Contains found f ↔ ((a : ArcLink) × Contains arcs a × CarriesSome a × (a.function.now ≡ f))

  pub found_in : (xs : List ArcLink) (i : ℕ) (x : ArcLink) (y : Name) (found more : List Name) → i < length xs → x ≡ get_or xs i x → AreFound (take i xs) found → CarriesSome x → y ≡ x.function.now → more ≡ found ++ y ∷ [] → AreFound (take (i + 1) xs) more
  found_in xs i x y found more lt is before within gave pushed z =
      let step : take (i + 1) xs ≡ take i xs ++ x ∷ [] = take_more xs i x lt ∙ ap (λ w. take i xs ++ w ∷ []) (sym is) in (
        λ h. elim (Contains-push_cases found y z (subst (λ l. Contains l z) pushed h)) [
          | inl front ↦ (let b = (before z).0 front in (b.0, subst (λ l. Contains l b.0) (sym step) (Contains-append_left (take i xs) (x ∷ []) b.0 b.1), b.2, b.3))
          | inr e ↦ (x, subst (λ l. Contains l x) (sym step) (Contains-push (take i xs) x), within, sym gave ∙ e)
        ],
        λ h. elim (Contains-push_cases (take i xs) x h.0 (subst (λ l. Contains l h.0) step h.1)) [
          | inl front ↦ subst (λ l. Contains l z) (sym pushed) (Contains-append_left found (y ∷ []) z ((before z).1 (h.0, front, h.2, h.3)))
          | inr e ↦ subst (λ l. Contains l z) (sym pushed) (subst (λ w. Contains (found ++ y ∷ []) w) (gave ∙ ap (λ (a : ArcLink). a.function.now) e ∙ h.3) (Contains-push found y))
        ],
      )

  pub found_out : (xs : List ArcLink) (i : ℕ) (x : ArcLink) (found : List Name) → i < length xs → x ≡ get_or xs i x → AreFound (take i xs) found → (CarriesSome x → ⊥) → AreFound (take (i + 1) xs) found
  found_out xs i x found lt is before without z =
      let step : take (i + 1) xs ≡ take i xs ++ x ∷ [] = take_more xs i x lt ∙ ap (λ w. take i xs ++ w ∷ []) (sym is) in (
        λ h. (let b = (before z).0 h in (b.0, subst (λ l. Contains l b.0) (sym step) (Contains-append_left (take i xs) (x ∷ []) b.0 b.1), b.2, b.3)),
        λ h. elim (Contains-push_cases (take i xs) x h.0 (subst (λ l. Contains l h.0) step h.1)) [
          | inl front ↦ (before z).1 (h.0, front, h.2, h.3)
          | inr e ↦ absurd (without (subst CarriesSome (sym e) h.2))
        ],
      )

  pub found_all : (xs : List ArcLink) (i : ℕ) (found : List Name) → length xs ≤ i → AreFound (take i xs) found → AreFound xs found
  found_all xs i found le before = subst (λ l. AreFound l found) (take_all i xs le) before

-- they are the functions of which a link by a variable may carry one
pub carrying_found : (q : Scope) (labels : List Label) (arcs : List ArcLink) (found : List Name) → ((p : Name × PlacedLink) → Contains (map arc_name arcs) p ↔ Contains (arc_links q) p) → AreFound q.version labels arcs found → AreCarrying q labels found
carrying_found q labels arcs found are all f = (
  λ h. (
      let at = (all f).0 h in
      let a : ArcLink = at.0 in
      let p : Name × PlacedLink = arc_name a in
      let s = at.2 in
      (s.item, s.within, (p.1, subst (λ (g : Name). Contains (arc_links q) (g, p.1)) at.3 ((are p).0 (Contains-mapped arc_name arcs a at.1)), subst (λ (g : Name). Carries q.version g s.item p.1) at.3 s.holds))
      ),
  λ h. (
      let k = h.2 in
      let a = Contains-map arc_name arcs (f, k.0) ((are (f, k.0)).1 k.1) in
      (all f).1 (a.0, a.2, record { item = h.0; within = h.1; holds = subst (λ (p : Name × PlacedLink). Carries q.version p.0 h.0 p.1) (sym a.1) k.2 }, ap (λ (p : Name × PlacedLink). p.0) a.1)
      ),
)

-- ---- the same said of other names and of another query

pub labels_as : (q i : Scope) (created labels : List Name) → i ≡ q → AreLabelsOf i created labels → AreLabelsOf q created labels
labels_as q i created labels e are = subst (λ (s : Scope). AreLabelsOf s created labels) e are

pub quoted_as : (q i : Scope) (set further functions : List Name) → i ≡ q → ((n : Name) → Contains set n ↔ Contains further n) → AreQuotedBy i set functions → AreQuotedBy q further functions
quoted_as q i set further functions e same are f =
    let here = subst (λ (s : Scope). AreQuotedBy s set functions) e are f in (
      λ h. (let b = here.0 h in (b.0, (same b.0).0 b.1, b.2)),
      λ h. here.1 (h.0, (same h.0).1 h.1, h.2),
    )

pub carrying_as : (q : Scope) (items set further functions : List Name) → items ≡ set → ((n : Name) → Contains set n ↔ Contains further n) → AreCarrying q items functions → AreCarrying q further functions
carrying_as q items set further functions e same are f =
    let here = subst (λ (l : List Name). AreCarrying q l functions) e are f in (
      λ h. (let b = here.0 h in (b.0, (same b.0).0 b.1, b.2)),
      λ h. here.1 (h.0, (same h.0).1 h.1, h.2),
    )
