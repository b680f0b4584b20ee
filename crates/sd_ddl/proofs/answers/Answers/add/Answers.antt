use Rattle.sd_ddl.proofs.Maps.{answer-added}
use Rattle.sd_ddl.proofs.answers.Answers.add.Goals as goal

pub returns : goal.returns
returns c o a = answer-added c.args.self.now.told c.insert.new.self c.in_ok-key.key c.args.object.now c.args.attribute.now c.args.told c.in_ok-key.ensures c.in_ok-insert.ensures.updates.0 o a
