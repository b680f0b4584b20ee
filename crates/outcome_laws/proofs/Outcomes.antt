-- The outcome of each term of a site that can be listed.
use Rattle.std.proofs.Common.{◌≡◌, ◌⊎◌, ℕ, ◌≤◌, ◌<◌, Bool, true, false, List, length, inl, inr, refl, arith}
use Rattle.std.specs.Prelude.{nat_le, Option}
use Rattle.std.proofs.lemmas.Bool.Decides.{nat_tests}
use Rattle.sd_value.specs.Names.{Name}
use Rattle.sd_value.specs.OrderLaws.{term_cmp-total, term_cmp-exact}
use Rattle.sd_value.specs.Order.{term_cmp}
use Rattle.sd_value.specs.declared.Term.{Term}
use Rattle.sd_value.specs.declared.Value.{Value}
use Rattle.sd_value.specs.declared.Value.TheVariants.{Page}
use Rattle.tmpl.specs.Body.{TemplateFile}
use Rattle.page_spec.specs.declared.Outcome.{Outcome}
use Rattle.page_spec.specs.declared.Outcome.TheVariants.{Page as Whole, Missing, Cyclic, TooLong}
use Rattle.page_spec.specs.declared.TheConstants.{PAGE_LIMIT}
use Rattle.page_spec.specs.Site.{Site}
use Rattle.page_spec.specs.Pieces.{HasTemplate}
use Rattle.page_spec.specs.Page.{HasText, Loops, IsPresent, IsOutcome, PageAt}
use Rattle.page_spec.proofs.Texts.{text_no_loops}
use Rattle.site_graphs.proofs.Decide.{Dec, yes, no, dec_as, dec_both, dec_in}
use Rattle.site_graphs.proofs.Lists.{AllOf, all_one, all_either, all_from}
use Rattle.site_graphs.proofs.Sites.{Joint, Named}
use Rattle.outcome_laws.proofs.Listing.{IsListed}
use Rattle.outcome_laws.proofs.Choosing.{has_template}
use Rattle.outcome_laws.proofs.Expanding.{IsClosed}
use Rattle.outcome_laws.proofs.Ending.{ends_or_loops, cyclic_at}
use Rattle.outcome_laws.proofs.Targets.{term_or_none}

module _ (site : Site) (listed : IsListed site) where
  -- where an edge leads, or collected
  abbrev IsShown : Value → Type 0
  IsShown v =
      ((j : Joint) × site.edge j.from j.label j.to × (j.to ≡ v))
      ⊎ ((m : Named) × site.collected m.collection m.value × (m.value ≡ v))

  -- what a value's text may embed, and the value itself
  abbrev IsNear : Value → Value → Type 0
  IsNear n v = (n ≡ v) ⊎ IsShown v

  all_near : (n : Value) → AllOf (IsNear n)
  all_near n =
      all_either (λ (v : Value). n ≡ v) IsShown (all_one n (λ (v : Value). n ≡ v) refl (λ v e. e))
      (all_either (λ (v : Value). (j : Joint) × site.edge j.from j.label j.to × (j.to ≡ v))
      (λ (v : Value). (m : Named) × site.collected m.collection m.value × (m.value ≡ v))
      (all_from (λ (j : Joint). site.edge j.from j.label j.to) (λ (j : Joint) (v : Value). j.to ≡ v) listed.edges
      (λ j. all_one j.to (λ (v : Value). j.to ≡ v) refl (λ v e. e)))
      (all_from (λ (m : Named). site.collected m.collection m.value) (λ (m : Named) (v : Value). m.value ≡ v)
      listed.collected
      (λ m. all_one m.value (λ (v : Value). m.value ≡ v) refl (λ v e. e))))

  near_closed : (n : Value) → IsClosed site (IsNear n)
  near_closed n = record {
    ends = λ u l v e. inr (inl (record { from = u; label = l; to = v }, e, refl));
    collected = λ c v h. inr (inr (record { collection = c; value = v }, h, refl));
  }

  module _ (templates : TemplateFile) where
    pub text_or_loops : (n : Value) → (k : ℕ) × HasTemplate site templates n k
        → ((t : List ℕ) × HasText site templates n t) ⊎ Loops site templates n
    text_or_loops n h = ends_or_loops site listed templates (IsNear n) (near_closed n) (all_near n) n (inl refl, h)

    is_present : (t : Term) → Dec (IsPresent site templates t)
    is_present t =
        dec_both
        (dec_as (listed.terms.sound t) (listed.terms.complete t)
        (dec_in term_cmp term_cmp-total term_cmp-exact listed.terms.items t))
        (has_template site listed templates (Page t))

    within_limit : (x : List ℕ) → (length x ≤ PAGE_LIMIT) ⊎ (PAGE_LIMIT < length x)
    within_limit x = by (nat_le (length x) PAGE_LIMIT) refl
      where
        by : (test : Bool) → nat_le (length x) PAGE_LIMIT ≡ test → (length x ≤ PAGE_LIMIT) ⊎ (PAGE_LIMIT < length x)
        by true is = inl (grind (arith, nat_tests))
        by false is = inr (grind (arith, nat_tests))

    abbrev Known : Term → Type 0
    Known t = (o : Outcome) × IsOutcome site templates t o

    of_text : (t : Term) → IsPresent site templates t → (x : List ℕ) → HasText site templates (Page t) x → Known t
    of_text t h x p =
        let never : Loops site templates (Page t) → ⊥ = text_no_loops site templates (Page t) x p in
        elim (within_limit x) [
          | inl short ↦ (Whole x, (h, never, p, short))
          | inr long ↦ (TooLong, (h, never, (x, p, long)))
        ]

    of_loop : (t : Term) → IsPresent site templates t → Loops site templates (Page t) → Known t
    of_loop t h l =
        let m = cyclic_at site listed templates (IsNear (Page t)) (near_closed (Page t)) (all_near (Page t)) (Page t)
        (inl refl, h.1) l in
        (Cyclic m.0, (h, l, m.1))

    pub outcome_of : (t : Term) → Known t
    outcome_of t =
        elim (is_present t) [
          | yes h ↦ elim (text_or_loops (Page t) h.1) [ inl x ↦ of_text t h x.0 x.1 | inr l ↦ of_loop t h l ]
          | no n ↦ (Missing, n)
        ]

    -- what a target gives: the outcome of the term that it names, or Missing
    pub at_target : (root : Option Name) (target : List ℕ)
        → (o : Outcome) × PageAt root site templates target o
    at_target root target =
        elim (term_or_none root target) [
          | yes t ↦ let o = outcome_of t.0 in (o.0, inl (t.0, t.1, o.1))
          | no none ↦ (Missing, inr (λ t h. none (t, h), refl))
        ]
