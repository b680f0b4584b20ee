use Rattle.std.proofs.Common.{subst, ◌∙◌}
use Rattle.page_spec.specs.Page.{IsOutcome}
use Rattle.tmpl.specs.Reading.{file_of}
use Rattle.query_blocks.specs.Blocks.{scope_of}
use Rattle.weight_spec.specs.Site.{site_of}
use Rattle.click_time.specs.Page.{PageFixed, page_site}
use Rattle.command_page.proofs.outcome_of.Goals as goal

pub returns : goal.returns
returns c =
    let o = subst (λ (f : PageFixed). IsOutcome (page_site f) f.templates c.args.term.now c.in_ok-outcome.outcome) c.of-click.ensures.fixed c.in_ok-outcome.ensures.outcome in
    subst (λ G. IsOutcome (site_of G (scope_of c.args.scopes.now)) (file_of c.args.templates.now) c.args.term.now c.in_ok-outcome.outcome) (c.of-asker.ensures.store ∙ c.in_ok-store.ensures) o
