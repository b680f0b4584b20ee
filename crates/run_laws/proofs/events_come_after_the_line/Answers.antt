use Rattle.run_laws.proofs.Order.{event_after_line}
use Rattle.run_laws.proofs.events_come_after_the_line.Goals as goal

pub returns : goal.returns
returns c = λ output errors words before after trace front later event exit run is. event_after_line output errors words before after trace exit run front later event is
