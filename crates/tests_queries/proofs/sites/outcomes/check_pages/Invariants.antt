use Rattle.tests_queries.proofs.sites.outcomes.check_pages.Given as goal

abbrev pub invariant-loop-term : goal.invariant-loop-term
invariant-loop-term g l = g.P.Pages.Own l.pages
