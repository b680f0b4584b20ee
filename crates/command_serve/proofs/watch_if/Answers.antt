use Rattle.command_serve.proofs.watch_if.Goals as goal

pub returns-in-Some-clause-watches : goal.returns-in-Some-clause-watches
returns-in-Some-clause-watches g c = rw c.in-Some.is c.watch_noted.ensures.watches
