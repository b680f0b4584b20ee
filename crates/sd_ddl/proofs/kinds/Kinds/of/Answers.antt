use Rattle.std.proofs.Common.{◌∙◌}
use Rattle.sd_ddl.proofs.Maps.{known_none}
use Rattle.sd_ddl.proofs.kinds.Kinds.of.Goals as goal

pub returns-then-is_empty : goal.returns-then-is_empty
returns-then-is_empty c =
    known_none c.args.parts.now (record { givings = c.in_ok-givings.givings; givers = c.new-givers.result; collections = c.new-collections.result; answers = c.new.result }) c.in_ok-givings.ensures (c.is_empty.ensures c.if-is_empty.true) c.new-givers.ensures
    c.new-collections.ensures c.new.ensures

pub returns : goal.returns
returns c o a = c.in_ok-answer_parts.ensures o a ∙ c.in_ok-kinds.ensures o a
