use Rattle.tests_live.proofs.kept_pages.check_edits.Given as goal

abbrev pub invariant-loop : goal.invariant-loop
invariant-loop g l = g.V.Versions.Own l.pages
