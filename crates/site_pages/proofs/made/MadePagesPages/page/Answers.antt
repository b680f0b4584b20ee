use Rattle.std.proofs.Common.{IfOk, subst, sym}
use Rattle.page_spec.specs.Page.{IsOutcome}
use Rattle.click_time.specs.Page.{page_site}
use Rattle.site_pages.specs.Made.{fixed_of}
use Rattle.site_pages.specs.declared.made.MadePages.{MadePages}
use Rattle.site_pages.proofs.made.MadePagesPages.page.Goals as goal

pub returns-in-Demanded-clause-outcome : goal.returns-in-Demanded-clause-outcome
returns-in-Demanded-clause-outcome c =
    subst (λ (pages : MadePages). IfOk c.page.result (λ o. IsOutcome (page_site (fixed_of pages)) (fixed_of pages).templates c.args.term.now o))
    (sym c.in-Demanded.is) c.page.ensures.outcome

pub returns-in-FromWhole-clause-outcome : goal.returns-in-FromWhole-clause-outcome
returns-in-FromWhole-clause-outcome c =
    subst (λ (pages : MadePages). IfOk c.page-in-FromWhole.result (λ o. IsOutcome (page_site (fixed_of pages)) (fixed_of pages).templates c.args.term.now o))
    (sym c.in-FromWhole.is) c.page-in-FromWhole.ensures.outcome
