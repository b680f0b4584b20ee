-- What the ends of a page's links say of it.
use Rattle.std.proofs.Common.{◌≡◌, ◌⊎◌, ◌↔◌, ℕ, ◌+◌, ◌<◌, ◌≤◌, Bool, true, false, eqb, List, [], ◌∷◌, ◌++◌, length, get_or, take, inl, inr, refl, sym, ap, ◌∙◌, subst, arith}
use Rattle.std.specs.Prelude.{Contains, IsTrue, ◌||◌, ◌==◌}
use Rattle.std.specs.List.{list_any}
use Rattle.std.specs.List.Sorted.{IsStrictlySortedBy}
use Rattle.std.specs.Ordering.{is_eq, eq_by_cmp}
use Rattle.std.specs.declared.cmp.Ordering.{Ordering}
use Rattle.std.specs.declared.cmp.Ordering.TheVariants.{Less, Equal}
use Rattle.std.proofs.lemmas.List.{take_more, take_all}
use Rattle.std.proofs.lemmas.List.Elements.{Contains-push_cases}
use Rattle.std.proofs.lemmas.Cmp.{tied_itself}
use Rattle.std.proofs.lemmas.Map.Keys.{Less-from_sorted}
use Rattle.std.proofs.lemmas.Bool.Decides.{Decides-eqb}
use Rattle.indexmap.proofs.CallerLemmas.{Contains-list_any}
use Rattle.std.specs.Cmp.{Equal-is}
use Rattle.sd_value.specs.declared.Value.{Value}
use Rattle.sd_value.specs.declared.Value.TheVariants.{Page}
use Rattle.sd_value.specs.declared.Term.{Term}
use Rattle.sd_value.specs.Names.{Name, Label}
use Rattle.sd_value.specs.Order.{bytes_cmp, term_cmp, value_cmp}
use Rattle.sd_value.specs.OrderLaws.{same_bytes, bytes_same, term_cmp-total, term_cmp-exact, value_cmp-total}
use Rattle.sd_value.specs.Ascending.{ListsExactly}
use Rattle.sd_value.specs.Members.{IsOneOf, IsOneOf-from_Contains, Contains-nil, Contains-here, Contains-there, Contains-cons_cases}
use Rattle.site_spec.specs.Site.{SomeOf}
use Rattle.page_spec.specs.Site.{Site}
use Rattle.constraint_spec.specs.Meets.{IsPageOf, LinksTo, LinksOnce}

pub page_of : (v : Value) (t : Term) (f : Name) (b : Bool) → v ≡ Page t → b ≡ is_eq (bytes_cmp t.function f) → IsTrue b ↔ IsPageOf f v
page_of v t f b is e = (
  λ h. record { page = t; is = is; function = same_bytes t.function f (sym e ∙ h) },
  λ p. let same : t ≡ p.page = cc in
      e ∙ subst (λ (g : Name). is_eq (bytes_cmp t.function g) ≡ true) (ap (λ (x : Term). x.function) same ∙ p.function) (bytes_same t.function),
)

-- ---- each of the items so far

pub each_none : {X : Type 0} (P : X → Type 0) → (x : X) → Contains [] x → P x
each_none P x h = absurd (Contains-nil x h)

pub each_more : {X : Type 0} (P : X → Type 0) (xs : List X) (i : ℕ) (x : X) → i < length xs → x ≡ get_or xs i x → ((y : X) → Contains (take i xs) y → P y) → P x → (y : X) → Contains (take (i + 1) xs) y → P y
each_more P xs i x l is so_far here y h =
    let more : take (i + 1) xs ≡ take i xs ++ x ∷ [] = take_more xs i x l ∙ ap (λ z. take i xs ++ z ∷ []) (sym is) in
    elim (Contains-push_cases (take i xs) x y (subst (λ (zs : List _). Contains zs y) more h)) [ inl k ↦ so_far y k | inr e ↦ subst P e here ]

pub each_all : {X : Type 0} (P : X → Type 0) (xs : List X) (i : ℕ) → length xs ≤ i → ((y : X) → Contains (take i xs) y → P y) → (y : X) → Contains xs y → P y
each_all P xs i l so_far y h = so_far y (subst (λ (zs : List _). Contains zs y) (sym (take_all i xs l)) h)

-- ---- the terms of a set

among : (ks : List Term) (t : Term) → IsOneOf ks t → list_any (eq_by_cmp term_cmp t) ks ≡ true
among [] t h = absurd h
among (k ∷ ks) t (inl e) =
    let tied : eq_by_cmp term_cmp t k ≡ true = subst (λ (x : Term). eq_by_cmp term_cmp t x ≡ true) (sym e) (ap is_eq (tied_itself term_cmp-total t)) in
    ap (λ b. b || list_any (eq_by_cmp term_cmp t) ks) tied
among (k ∷ ks) t (inr h) = by (eq_by_cmp term_cmp t k) (among ks t h)
  where
    by : (b : Bool) → list_any (eq_by_cmp term_cmp t) ks ≡ true → (b || list_any (eq_by_cmp term_cmp t) ks) ≡ true
    by true e = refl
    by false e = e

pub same_term : (x y : Term) → eq_by_cmp term_cmp x y ≡ true → x ≡ y
same_term x y h = term_cmp-exact x y ((Equal-is (term_cmp x y)).0 h)

pub set_has : (ks : List Term) (t : Term) → IsTrue (list_any (eq_by_cmp term_cmp t) ks) ↔ Contains ks t
set_has ks t = (
  λ h. Contains-list_any (eq_by_cmp term_cmp) same_term ks t h,
  λ h. among ks t (IsOneOf-from_Contains ks t h),
)

-- ---- one page

module _ (site : Site) (p : Term) (label : Label) (ends : List Value) (lists : ListsExactly value_cmp (site.edge (Page p) label) ends) where
  pub links_to : (h : Name) (r : Bool) → IsTrue r ↔ SomeOf (IsPageOf h) ends → IsTrue r ↔ LinksTo site.has site.edge p label h
  links_to h r is = (
    λ b. let s = is.0 b in record { end = s.item; is_linked = lists.sound s.item s.within; is_page = s.holds },
    λ k. is.1 record { item = k.end; within = lists.complete k.end k.is_linked; holds = k.is_page },
  )

  pub links_only : (h : Name) (r : Bool) → IsTrue r ↔ ((v : Value) → Contains ends v → IsPageOf h v) → IsTrue r ↔ ((v : Value) → site.edge (Page p) label v → IsPageOf h v)
  links_only h r is = (
    λ b v e. is.0 b v (lists.complete v e),
    λ k. is.1 (λ v i. k v (lists.sound v i)),
  )

  pub links_never : (r : Bool) → r ≡ (length ends == 0) → IsTrue r ↔ ((v : Value) → site.edge (Page p) label v → ⊥)
  links_never r is = (
    λ b v e.
        let i = lists.complete v e in
        let none : length ends ≡ 0 = (Decides-eqb (length ends) 0).0 (sym is ∙ b) in
        absurd (omega (arith, i.1)),
    λ k. is ∙ (Decides-eqb (length ends) 0).1 (no_length ends (λ v i. k v (lists.sound v i))),
  )
    where
      no_length : (xs : List Value) → ((v : Value) → Contains xs v → ⊥) → length xs ≡ 0
      no_length [] none = refl
      no_length (x ∷ xs) none = absurd (none x (Contains-here x xs))

  pub links_once : (r : Bool) → r ≡ (length ends == 1) → IsTrue r ↔ LinksOnce site.has site.edge p label
  links_once r is = (
    λ b. to ends lists.sound lists.complete ((Decides-eqb (length ends) 1).0 (sym is ∙ b)),
    λ k. is ∙ (Decides-eqb (length ends) 1).1 (from ends lists.ascending k.end (λ v i. k.single v (lists.sound v i)) (lists.complete k.end k.is_linked)),
  )
    where
      to : (xs : List Value) → ((v : Value) → Contains xs v → site.edge (Page p) label v) → ((v : Value) → site.edge (Page p) label v → Contains xs v) → length xs ≡ 1
          → LinksOnce site.has site.edge p label
      to [] sound complete one = absurd (omega (arith, one))
      to (x ∷ []) sound complete one = record {
        end = x;
        is_linked = sound x (Contains-here x []);
        single = λ v e. elim (Contains-cons_cases x [] v (complete v e)) [ inl same ↦ sym same | inr none ↦ absurd (Contains-nil v none) ];
      }
      to (x ∷ y ∷ zs) sound complete one = absurd (omega (arith, one))

      apart : (x y : Value) → value_cmp x y ≡ Less → x ≡ y → ⊥
      apart x y less same =
          let tied : value_cmp x y ≡ Equal = subst (λ (z : Value). value_cmp x z ≡ Equal) same (tied_itself value_cmp-total x) in cc

      from : (xs : List Value) → IsStrictlySortedBy value_cmp xs → (end : Value) → ((v : Value) → Contains xs v → v ≡ end) → Contains xs end → length xs ≡ 1
      from [] sorted end all within = absurd (Contains-nil end within)
      from (x ∷ []) sorted end all within = refl
      from (x ∷ y ∷ zs) sorted end all within =
          absurd (apart x y (Less-from_sorted value_cmp (x ∷ y ∷ zs) 0 1 x sorted (omega arith) (omega arith))
          (all x (Contains-here x (y ∷ zs)) ∙ sym (all y (Contains-there x (y ∷ zs) y (Contains-here y zs)))))
