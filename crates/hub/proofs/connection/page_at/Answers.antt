use Rattle.std.proofs.Common.{◌≡◌, ◌⊎◌, ℕ, List, [], ◌∷◌, Option, Some, None, Result, Ok, Err, IfOk, OnErr, refl, subst, inl, inr, Bor}
use Rattle.std.specs.Prelude.{option_copied}
use Rattle.page_spec.specs.Address.{TermOf}
use Rattle.sd_value.specs.declared.Term.{Term}
use Rattle.address.specs.Targets.{root_name, IsOnly}
use Rattle.serving_spec.specs.Made.{NamedBy, AllLooked}
use Rattle.hub.proofs.connection.page_at.Goals as goal

-- the root's name is the one that is lent
root_of : (r : Option (Bor (List ℕ))) (root : Option (List ℕ)) → option_copied r ≡ root → root_name r ≡ root
root_of None root is = is
root_of (Some r) root is = is

pub returns-in-None-clause-found : goal.returns-in-None-clause-found
returns-in-None-clause-found g c =
    let same = root_of c.as_ref.result c.args.origin.now.root c.as_ref.ensures.value in
    inr (
      subst (λ r. (t : Term) → TermOf r c.args.target.now t → ⊥) same
          (subst (IsOnly (TermOf (root_name c.as_ref.result) c.args.target.now)) c.in-None.is c.in_ok-term.ensures),
      refl,
    )

-- a page that is asked for is looked up, unless memory is missing
page_looked : {C O E : Type 0} (Looks : C → Term → C → Type 0) (Names : List ℕ → Term → Type 0) (target : List ℕ) (before after : C) (term : Term) (r : Result O E)
    → Names target term → IfOk r (λ o. Looks before term after) → OnErr r (after ≡ before)
    → (terms : List Term) × ((terms ≡ []) ⊎ NamedBy Names target terms) × IfOk r (λ o. NamedBy Names target terms) × AllLooked Looks before terms after
page_looked Looks Names target before after term (Ok o) named looks same =
    (term ∷ [], inr (inl (term, named, refl)), inl (term, named, refl), (after, looks, refl))
page_looked Looks Names target before after term (Err e) named looks same = ([], inl refl, tt, same)

pub returns-in-Some-clause-looked : goal.returns-in-Some-clause-looked
returns-in-Some-clause-looked g c =
    let same = root_of c.as_ref.result c.args.origin.now.root c.as_ref.ensures.value in
    let named = subst (λ r. TermOf r c.args.target.now c.in-Some.term) same
    (subst (IsOnly (TermOf (root_name c.as_ref.result) c.args.target.now)) c.in-Some.is c.in_ok-term.ensures) in
    page_looked (g.P.Versions.looks (g.P.Versions.state c.args.pages.now)) (TermOf c.args.origin.now.root) c.args.target.now (g.P.Versions.cache c.args.pages.now)
    (g.P.Versions.cache c.page.new.self) c.in-Some.term c.page.result named c.page.ensures.looks c.page.ensures.err

pub returns-in-None-clause-looked : goal.returns-in-None-clause-looked
returns-in-None-clause-looked g c =
    let same = root_of c.as_ref.result c.args.origin.now.root c.as_ref.ensures.value in
    let none = subst (λ r. (t : Term) → TermOf r c.args.target.now t → ⊥) same
    (subst (IsOnly (TermOf (root_name c.as_ref.result) c.args.target.now)) c.in-None.is c.in_ok-term.ensures) in
    ([], inl refl, inr (none, refl), refl)
