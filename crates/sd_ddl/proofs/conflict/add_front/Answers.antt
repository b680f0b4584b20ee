use Rattle.std.proofs.Common.{subst, Err}
use Rattle.sd_graph.specs.Stating.{Ends, Leads}
use Rattle.sd_ddl.specs.Tables.{told_of}
use Rattle.sd_ddl.specs.Stops.{all_said, stop_ending}
use Rattle.sd_ddl.proofs.Conflicts.{front_added, front_stopped}
use Rattle.sd_ddl.proofs.conflict.add_front.Goals as goal

pub returns-in-Ok : goal.returns-in-Ok
returns-in-Ok c =
    front_added c.args.parts.now c.args.kinds.now c.requires.known c.args.conflict c.split_at.result.0.now c.args.graph.now c.add_parts.new.graph c.requires.first c.split_at.ensures.front
    (subst (λ b. Leads b (all_said (told_of c.args.kinds.now) c.split_at.result.0.now) c.add_parts.new.graph) c.in_ok-trial.ensures c.in-Ok.ensures)

pub returns-in-Err : goal.returns-in-Err
returns-in-Err c =
    front_stopped c.args.parts.now c.args.kinds.now c.requires.known c.args.conflict c.split_at.result.0.now c.args.graph.now c.add_parts.new.graph c.in-Err.stop c.requires.first
    c.split_at.ensures.front
    (subst (λ b. Ends b (all_said (told_of c.args.kinds.now) c.split_at.result.0.now) c.add_parts.new.graph (stop_ending (Err c.in-Err.stop))) c.in_ok-trial.ensures c.in-Err.ensures)
