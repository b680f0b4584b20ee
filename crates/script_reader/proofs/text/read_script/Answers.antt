use Rattle.script_reader.proofs.Scripted.{scripted}
use Rattle.script_reader.proofs.text.read_script.Goals as goal

pub returns-clause-events : goal.returns-clause-events
returns-clause-events c = rw c.events_of.ensures (scripted c.as_slice.result.now c.in_ok-phrases.phrases.items c.in_ok-phrases.ensures)
