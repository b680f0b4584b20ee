use Rattle.std.proofs.Common.{refl, []}
use Rattle.json_source.proofs.statements.state_number.Goals as goal

pub returns-in_ok-copy-in-None : goal.returns-in_ok-copy-in-None
returns-in_ok-copy-in-None c = ([], [], rw (c.in-None.is, c.in_ok-copy-in-None.ensures) refl, refl)
