-- The terms whose function has a template.
use Rattle.std.proofs.Common.{◌≡◌, ℕ, ◌+◌, ◌<◌, ◌≤◌, List, [], ◌∷◌, ◌++◌, map, length, get_or, take, arith, refl, sym, subst, ◌∙◌}
use Rattle.std.specs.Prelude.{Option, Some, None, Bool, true, false, Contains, IsTrue, ◌↔◌}
use Rattle.std.specs.Option.{MatchOption}
use Rattle.std.specs.declared.cmp.Ordering.TheVariants.{Less}
use Rattle.std.specs.List.Sorted.{IsStrictlySortedBy}
use Rattle.std.proofs.lemmas.List.{length-take, get_or-take, get_or_default}
use Rattle.std.proofs.lemmas.List.Elements.{All-from_recursion, recursion_from_All, All-nil, All-push}
use Rattle.std.proofs.lemmas.Map.Keys.{Less-from_sorted}
use Rattle.sd_value.specs.Members.{Contains-here, Contains-there}
use Rattle.sd_value.specs.declared.Term.{Term}
use Rattle.sd_value.specs.Order.{term_cmp}
use Rattle.sd_value.specs.Ascending.{ListsExactly}
use Rattle.tmpl.specs.declared.NamedTemplate.{NamedTemplate}
use Rattle.tmpl.specs.Body.{Named, TemplateFile}
use Rattle.tmpl.specs.Reading.{named_of}
use Rattle.page_spec.specs.Pieces.{First}
use Rattle.site_spec.specs.Site.{SomeOf}
use Rattle.site_lookups.proofs.Some.{some_from}
use Rattle.site_build.specs.Materialised.{HasPageTemplate}
use Rattle.site_build.specs.Gains.{Gains}
use Rattle.site_build.proofs.Growing.{gains_none, gains_push, gains_nil, gains_next, gains_end, gained_to}

abbrev Numbered : List NamedTemplate → Term → Option ℕ → Type 0
Numbered names t o = MatchOption o ((k : ℕ) → First (λ name. name ≡ t.function) (map named_of names) k → ⊥) (λ k. First (λ name. name ≡ t.function) (map named_of names) k)

pub template_found : (f : TemplateFile) (names : List NamedTemplate) (t : Term) (o : Option ℕ) (k : ℕ) → map named_of names ≡ f.functions → o ≡ Some k → Numbered names t o → IsTrue true ↔ HasPageTemplate f t
template_found f names t o k e is m =
    let at : Numbered names t (Some k) = subst (Numbered names t) is m in
    (λ _. (k, subst (λ (ns : List Named). First (λ name. name ≡ t.function) ns k) e at), λ _. refl)

pub template_missing : (f : TemplateFile) (names : List NamedTemplate) (t : Term) (o : Option ℕ) → map named_of names ≡ f.functions → o ≡ None → Numbered names t o → IsTrue false ↔ HasPageTemplate f t
template_missing f names t o e is m =
    let at : Numbered names t None = subst (Numbered names t) is m in
    (λ h. cc, λ h. absurd (at h.0 (subst (λ (ns : List Named). First (λ name. name ≡ t.function) ns h.0) (sym e) h.1)))

-- the term is one that has a page
abbrev pub IsPage : TemplateFile → Term → Term → Type 0
IsPage f t p = (t ≡ p) × HasPageTemplate f t

-- those of the first n terms that have pages, in their order
pub record PagesSoFar (f : TemplateFile) (terms : List Term) (n : ℕ) (pages : List Term) : Type 0 where
  pub gained : Gains (λ p. SomeOf (λ t. IsPage f t p) (take n terms)) [] pages
  pub ascending : IsStrictlySortedBy term_cmp pages

pub no_pages : (f : TemplateFile) (terms pages : List Term) → pages ≡ [] → PagesSoFar f terms 0 pages
unfolding IsStrictlySortedBy
no_pages f terms pages e = subst (PagesSoFar f terms 0) (sym e) (record { gained = gains_nil (λ t p. IsPage f t p) []; ascending = tt })

-- a term above all of an ascending list goes last
push_ascends : (ts : List Term) (t : Term) → IsStrictlySortedBy term_cmp ts → ((x : Term) → Contains ts x → term_cmp x t ≡ Less) → IsStrictlySortedBy term_cmp (ts ++ t ∷ [])
unfolding IsStrictlySortedBy
push_ascends [] t up below = (recursion_from_All (λ y. term_cmp t y ≡ Less) [] (All-nil (λ y. term_cmp t y ≡ Less)), tt)
push_ascends (s ∷ ts) t up below = (
  recursion_from_All (λ y. term_cmp s y ≡ Less) (ts ++ t ∷ []) (All-push (λ y. term_cmp s y ≡ Less) ts t (All-from_recursion (λ y. term_cmp s y ≡ Less) ts up.0) (below s (Contains-here s ts))),
  push_ascends ts t up.1 (λ x h. below x (Contains-there s ts x h)),
)

-- a term is above those before it
before_next : (terms : List Term) (i : ℕ) (t x : Term) → IsStrictlySortedBy term_cmp terms → i < length terms → t ≡ get_or terms i t → Contains (take i terms) x → term_cmp x t ≡ Less
before_next terms i t x up l is h =
    let j = h.0 in
    let below : j < i = omega (arith, h.1, length-take i terms) in
    let at : get_or terms j x ≡ x = sym (get_or-take i terms j x below) ∙ h.2 in
    let to : get_or terms i x ≡ t = get_or_default terms i x t l ∙ sym is in
    subst (λ b. term_cmp x b ≡ Less) to (subst (λ a. term_cmp a (get_or terms i x) ≡ Less) at (Less-from_sorted term_cmp terms j i x up below l))

pub no_page_more : (f : TemplateFile) (terms : List Term) (i : ℕ) (t : Term) (pages : List Term) (b : Bool) → i < length terms → t ≡ get_or terms i t → b ≡ false → IsTrue b ↔ HasPageTemplate f t
    → PagesSoFar f terms i pages → PagesSoFar f terms (i + 1) pages
no_page_more f terms i t pages b l is differs h so = record {
  gained = gains_next (λ t p. IsPage f t p) terms i t [] pages pages l is so.gained (gains_none (IsPage f t) pages (λ p at. let yes = h.1 at.1 in cc));
  ascending = so.ascending;
}

pub one_page_more : (f : TemplateFile) (terms : List Term) (i : ℕ) (t copied : Term) (pages : List Term) (b : Bool) → IsStrictlySortedBy term_cmp terms → i < length terms → t ≡ get_or terms i t → b ≡ true → IsTrue b ↔ HasPageTemplate f t
    → copied ≡ t → PagesSoFar f terms i pages → PagesSoFar f terms (i + 1) (pages ++ copied ∷ [])
one_page_more f terms i t copied pages b up l is holds h e so = record {
  gained = gains_next (λ t p. IsPage f t p) terms i t [] pages (pages ++ copied ∷ []) l is so.gained (gains_push (IsPage f t) pages copied (sym e, h.0 holds) (λ x at. e ∙ at.0));
  ascending = push_ascends pages copied so.ascending (λ x at. subst (λ y. term_cmp x y ≡ Less) (sym e) (before_next terms i t x up l is (kept x at)));
}
  where
    kept : (x : Term) → Contains pages x → Contains (take i terms) x
    kept x at = let s = gained_to (λ p. SomeOf (λ t. IsPage f t p) (take i terms)) [] pages refl so.gained x at in subst (Contains (take i terms)) s.holds.0 s.within

pub pages_kept : (f : TemplateFile) (terms : List Term) (i : ℕ) (pages : List Term) → length terms ≤ i → PagesSoFar f terms i pages
    → ListsExactly term_cmp (λ p. Contains terms p × HasPageTemplate f p) pages
pages_kept f terms i pages l so =
    let g = gains_end (λ t p. IsPage f t p) terms i [] pages l so.gained in
    record {
      ascending = so.ascending;
      sound = λ p h. let s = gained_to (λ p. SomeOf (λ t. IsPage f t p) terms) [] pages refl g p h in
          (subst (Contains terms) s.holds.0 s.within, subst (HasPageTemplate f) s.holds.0 s.holds.1);
      complete = λ p h. g.gained p (some_from (λ t. IsPage f t p) terms p h.0 (refl, h.1));
    }
