use Rattle.std.proofs.Common.{refl, None}
use Rattle.logged_wire.specs.Logged.{starting}
use Rattle.logged_wire.proofs.Whole.{whole}
use Rattle.logged_wire.proofs.the_log_has_the_lines_of_what_happened.Goals as goal

pub returns : goal.returns
returns c = λ first trace after notes none. whole trace (λ connection. None) (starting first) after (λ connection. refl) notes none
