use Rattle.std.proofs.Common.{sym}
use Rattle.command_serve.proofs.Told.{no_counts, no_counts_watched}
use Rattle.command_serve.proofs.no_counts.Goals as goal

pub returns-then-watches : goal.returns-then-watches
returns-then-watches c = rw c.if-watches.true (sym no_counts_watched)

pub returns-else-watches : goal.returns-else-watches
returns-else-watches c = rw c.if-watches.false (sym no_counts)
