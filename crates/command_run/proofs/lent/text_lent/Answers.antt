use Rattle.command_run.proofs.lent.text_lent.Goals as goal

pub returns-clause-reads : goal.returns-clause-reads
returns-clause-reads g c =
    rw c.lend-2.ensures.taken (rw (c.lend.ensures.given, c.lend.ensures.same) at c.text_answer-answer.ensures.traced)
