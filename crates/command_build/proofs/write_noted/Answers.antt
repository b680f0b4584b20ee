use Rattle.command_build.proofs.write_noted.Goals as goal

pub returns-clause-course : goal.returns-clause-course
returns-clause-course g c =
    rw c.lend-2.ensures.taken (rw (c.lend.ensures.given, c.lend.ensures.same, c.choose_durable.ensures.same) at c.write_built-result.ensures.traced)
