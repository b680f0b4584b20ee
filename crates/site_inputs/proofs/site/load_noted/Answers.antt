use Rattle.site_inputs.proofs.site.load_noted.Goals as goal

pub returns-clause-course : goal.returns-clause-course
returns-clause-course g c =
    rw c.lend-2.ensures.taken (rw (c.lend.ensures.given, c.lend.ensures.same) at c.load_inputs-result.ensures.traced)
