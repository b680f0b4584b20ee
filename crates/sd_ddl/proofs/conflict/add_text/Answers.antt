use Rattle.std.proofs.Common.{subst}
use Rattle.sd_ddl.specs.Stops.{IsFirst}
use Rattle.sd_ddl.proofs.Conflicts.{all_taken}
use Rattle.sd_ddl.proofs.conflict.add_text.Goals as goal

pub returns-in-None : goal.returns-in-None
returns-in-None c =
    all_taken c.args.parts.now c.in_ok-kinds.kinds c.in_ok-kinds.ensures c.args.graph.now c.add_parts.new.graph c.add_parts.result
    (subst (IsFirst c.args.parts.now) c.in-None.is c.in_ok-first_conflict.ensures) c.add_parts.ensures
