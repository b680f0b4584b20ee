-- The page at an address, by the term that the address names.
use Rattle.std.proofs.Common.{◌≡◌, ℕ, List, inl, inr, refl, sym, subst}
use Rattle.std.specs.Prelude.{Result, Err, Option, Some, None}
use Rattle.sd_value.specs.declared.Term.{Term}
use Rattle.site_spec.specs.Site.{Scope}
use Rattle.site_spec.specs.Root.{root_function}
use Rattle.page_spec.specs.Address.{TermOf}
use Rattle.page_spec.specs.Page.{IsOutcome}
use Rattle.page_spec.specs.declared.Outcome.{Outcome}
use Rattle.page_spec.specs.declared.Outcome.TheVariants as outcome
use Rattle.address.specs.Targets.{IsOnly}
use Rattle.weight_spec.specs.Site.{site_of}
use Rattle.site_inputs.specs.declared.fault.Fault.{Fault}
use Rattle.site_inputs.specs.declared.fault.Fault.TheVariants.{NotFound}
use Rattle.site_inputs.specs.Sites.{Inputs, site_at}
use Rattle.site_inputs.proofs.ReadLemmas.{IsRead}
use Rattle.command_page.specs.Ends.{PageTaken, answer_of}

-- an address that names no term
pub no_term : (s : Inputs) (address : List ℕ) (root : Option (List ℕ)) (named : Option Term) → root ≡ root_function s.query
    → IsOnly (TermOf root address) named → named ≡ None → PageTaken s address (Err NotFound)
no_term s address root named is_root only is =
    let none : (t : Term) → TermOf root address t → ⊥ = subst (IsOnly (TermOf root address)) is only in
    inr (inl (record { none = λ t names. none t (subst (λ r. TermOf r address t) (sym is_root) names); is = refl }))

-- the answer of the term that an address names
pub term_answer : (s : Inputs) (address : List ℕ) (root : Option (List ℕ)) (named : Option Term) (scope : Scope) (t : Term) (its : Outcome) (answer : Result (List ℕ) Fault)
    → root ≡ root_function s.query → IsOnly (TermOf root address) named → named ≡ Some t
    → site_of s.graph scope ≡ site_at s → IsOutcome (site_of s.graph scope) s.templates t its → answer ≡ answer_of t its → PageTaken s address answer
term_answer s address root named scope t its answer is_root only is is_site outcome is_answer =
    let names : TermOf root address t = subst (IsOnly (TermOf root address)) is only in
    inl (record { term = t; named = subst (λ r. TermOf r address t) is_root names; its = its; is_its = subst (λ site. IsOutcome site s.templates t its) is_site outcome; is = is_answer })

answer_is_read : (t : Term) (its : Outcome) → IsRead (answer_of t its)
answer_is_read t (outcome.Page text) = tt
answer_is_read t outcome.Missing = tt
answer_is_read t (outcome.Cyclic value) = tt
answer_is_read t outcome.TooLong = tt

-- taking the page reads no file
pub page_is_read : (s : Inputs) (address : List ℕ) (result : Result (List ℕ) Fault) → PageTaken s address result → IsRead result
page_is_read s address result (inl a) = subst (λ (r : Result (List ℕ) Fault). IsRead r) (sym a.is) (answer_is_read a.term a.its)
page_is_read s address result (inr (inl a)) = subst (λ (r : Result (List ℕ) Fault). IsRead r) (sym a.is) tt
page_is_read s address result (inr (inr is)) = subst (λ (r : Result (List ℕ) Fault). IsRead r) (sym is) tt
