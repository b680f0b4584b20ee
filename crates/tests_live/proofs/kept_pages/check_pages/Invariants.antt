use Rattle.tests_live.proofs.kept_pages.check_pages.Given as goal

abbrev pub invariant-loop-term : goal.invariant-loop-term
invariant-loop-term g l = g.V.Versions.Own l.pages × g.P.Pages.Own l.whole
