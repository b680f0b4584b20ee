-- A search over links, from the root page to its end.
use Rattle.std.proofs.Common.{◌≡◌, ◌⊎◌, ℕ, ◌+◌, ◌<◌, ◌≤◌, Bool, true, false, List, [], ◌∷◌, ◌++◌, length, get_or, take, inl, inr, refl, sym, ap, ◌∙◌, subst, arith, length-append}
use Rattle.std.specs.Prelude.{Contains}
use Rattle.std.specs.List.{IsDistinct}
use Rattle.std.specs.Ordering.{eq_by_cmp}
use Rattle.std.specs.Cmp.{eq_by_cmp_equiv}
use Rattle.std.proofs.lemmas.List.{take_more, take_all, take-append-le}
use Rattle.std.proofs.lemmas.List.Elements.{Contains-append_cases, Contains-push_cases}
use Rattle.std.proofs.lemmas.Map.Made.{length-le_from_is_member}
use Rattle.sd_value.specs.declared.Value.{Value}
use Rattle.sd_value.specs.declared.Value.TheVariants.{Page}
use Rattle.sd_value.specs.declared.Term.{Term}
use Rattle.sd_value.specs.Names.{Name, Label}
use Rattle.sd_value.specs.Order.{term_cmp, value_cmp}
use Rattle.sd_value.specs.OrderLaws.{term_cmp-total}
use Rattle.sd_value.specs.Ascending.{ListsExactly}
use Rattle.sd_value.specs.Members.{Contains-nil, among_at}
use Rattle.site_spec.specs.Site.{SomeOf}
use Rattle.page_spec.specs.Site.{Site}
use Rattle.constraint_spec.specs.Meets.{root_page, LeadsTo, stays, goes, IsReached}
use Rattle.constraint_report.specs.Here.{IsListed}
use Rattle.constraint_report.specs.Links.{Adds, IsNext, IsNextBy, IsBegun, AreReached}
use Rattle.constraint_report.proofs.Adding.{adds_kept, adds_as}
use Rattle.constraint_report.proofs.EachPage.{set_has}

-- the links of a page by one label, from the values at their ends
pub next_from : (site : Site) (page : Term) (label : Label) (ends : List Value) (old new : List Term) → ListsExactly value_cmp (site.edge (Page page) label) ends
    → Adds (λ t. SomeOf (λ (v : Value). v ≡ Page t) ends) old new → Adds (IsNext site page label) old new
next_from site page label ends old new lists adds =
    adds_as (λ t. SomeOf (λ (v : Value). v ≡ Page t) ends) (IsNext site page label) old new
    (λ t s. subst (site.edge (Page page) label) s.holds (lists.sound s.item s.within))
    (λ t e. record { item = Page t; within = lists.complete (Page t) e; holds = refl }) adds

-- what lies at a place of a list, read in an equal one
pub at_place : {X : Type 0} (xs ys : List X) (k : ℕ) (x y : X) → xs ≡ ys → x ≡ get_or xs k x → y ≡ x → y ≡ get_or ys k y
at_place xs ys k x y same is e = subst (λ z. z ≡ get_or ys k z) (sym e) (subst (λ (zs : List _). x ≡ get_or zs k x) same is)

-- the pages found so far are reached, and the links of the first ones were followed
pub record IsUnderWay (site : Site) (root : Name) (followed : ℕ) (found : List Term) : Type 0 where
  pub within : followed ≤ length found
  pub begun : site.has (root_page root) → Contains found (root_page root)
  pub sound : (t : Term) → Contains found t → IsReached site.has site.edge root t
  pub in_site : (t : Term) → Contains found t → site.has t
  pub closed : (t : Term) → Contains (take followed found) t → (label : Label) (u : Term) → site.edge (Page t) label (Page u) → Contains found u

module _ (site : Site) (root : Name) where
  pub sets_out : (found : List Term) → IsBegun site root found → IsUnderWay site root 0 found
  sets_out found b = record {
    within = omega arith;
    begun = b.all;
    sound = λ t i. let o = b.only t i in record {
      root_in_site = subst site.has o.0 o.1;
      led = subst (λ (x : Term). LeadsTo site.has site.edge (root_page root) x) (sym o.0) stays;
    };
    in_site = λ t i. (b.only t i).1;
    closed = λ t i. absurd (Contains-nil t i);
  }

  -- the links of one page more were followed
  pub goes_on : (terms : List Term) (labels : List Label) (k : ℕ) (page : Term) (found found2 : List Term) → IsListed site terms labels → k < length found → page ≡ get_or found k page
      → IsUnderWay site root k found → Adds (IsNextBy site labels page) found found2 → IsUnderWay site root (k + 1) found2
  goes_on terms labels k page found found2 listed l is way adds = record {
    within = omega (arith, ap length adds.is, length-append found adds.more);
    begun = λ h. kept (root_page root) (way.begun h);
    sound = λ t i. elim (cases t i) [ inl old ↦ way.sound t old | inr new ↦ led t (adds.only t new) ];
    in_site = λ t i. elim (cases t i) [ inl old ↦ way.in_site t old | inr new ↦ let s = adds.only t new in listed.ends page s.item t s.holds ];
    closed = closed2;
  }
    where
      kept : (t : Term) → Contains found t → Contains found2 t
      kept = adds_kept (IsNextBy site labels page) found found2 adds

      cases : (t : Term) → Contains found2 t → Contains found t ⊎ Contains adds.more t
      cases t i = Contains-append_cases found adds.more t (subst (λ (xs : List Term). Contains xs t) adds.is i)

      here : IsReached site.has site.edge root page
      here = way.sound page (among_at found k page page l is refl)

      led : (t : Term) → IsNextBy site labels page t → IsReached site.has site.edge root t
      led t s = record { root_in_site = here.root_in_site; led = goes s.item t here.led s.holds }

      front : take (k + 1) found2 ≡ take k found ++ page ∷ []
      front =
          ap (take (k + 1)) adds.is ∙ take-append-le (k + 1) found adds.more (omega arith) ∙ take_more found k page l ∙ ap (λ (z : Term). take k found ++ z ∷ []) (sym is)

      closed2 : (t : Term) → Contains (take (k + 1) found2) t → (label : Label) (u : Term) → site.edge (Page t) label (Page u) → Contains found2 u
      closed2 t i label u e = elim (Contains-push_cases (take k found) page t (subst (λ (xs : List Term). Contains xs t) front i)) [
        | inl old ↦ kept u (way.closed t old label u e)
        | inr same ↦
            let from_page : site.edge (Page page) label (Page u) = subst (λ (x : Term). site.edge (Page x) label (Page u)) (sym same) e in
            adds.all u record { item = label; within = listed.labelled page label (Page u) from_page; holds = from_page }
      ]

  -- nothing is left to be followed
  pub all_reached : (k : ℕ) (found : List Term) → length found ≤ k → IsUnderWay site root k found → AreReached site root found
  all_reached k found l way = record {
    sound = way.sound;
    complete = λ t r. comes t (way.begun r.root_in_site) r.led;
  }
    where
      comes : (t : Term) → Contains found (root_page root) → LeadsTo site.has site.edge (root_page root) t → Contains found t
      comes t start stays = start
      comes t start (goes {middle = m} label to way_there linked) =
          way.closed m (subst (λ (xs : List Term). Contains xs m) (sym (take_all k found l)) (comes m start way_there)) label to linked

-- no more terms than those that are listed
pub at_most : (found terms : List Term) → IsDistinct (eq_by_cmp term_cmp) found → ((t : Term) → Contains found t → Contains terms t) → length found ≤ length terms
at_most found terms distinct within =
    length-le_from_is_member (eq_by_cmp_equiv term_cmp-total) found terms distinct (λ t h. (set_has terms t).1 (within t ((set_has found t).0 h)))
