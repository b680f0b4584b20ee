use Rattle.std.proofs.Common.{List, sym, subst}
use Rattle.std.specs.Prelude.{Contains}
use Rattle.std.specs.List.Sorted.{IsStrictlySortedBy}
use Rattle.sd_value.specs.declared.Term.{Term}
use Rattle.sd_value.specs.Order.{term_cmp}
use Rattle.site_build.proofs.whole.WholeSiteView.in_site.Goals as goal

pub has_term-found-requires : goal.has_term-found-requires
has_term-found-requires g c = subst (IsStrictlySortedBy term_cmp) (sym c.as_slice.ensures.value) c.requires.own.made.all_terms.ascending

pub returns-clause-answer : goal.returns-clause-answer
returns-clause-answer g c = (
  λ yes. c.requires.own.made.all_terms.sound c.args.term.now (subst (λ (ts : List Term). Contains ts c.args.term.now) c.as_slice.ensures.value (c.has_term-found.ensures.0 yes)),
  λ h. c.has_term-found.ensures.1 (subst (λ (ts : List Term). Contains ts c.args.term.now) (sym c.as_slice.ensures.value) (c.requires.own.made.all_terms.complete c.args.term.now h)),
)
