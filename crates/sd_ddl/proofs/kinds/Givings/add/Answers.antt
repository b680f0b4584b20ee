use Rattle.std.proofs.Common.{◌∙◌, ap}
use Rattle.sd_ddl.specs.declared.kinds.StatedKinds.TheVariants.{One}
use Rattle.sd_ddl.specs.Tables.{both}
use Rattle.sd_ddl.proofs.Maps.{told-added}
use Rattle.sd_ddl.proofs.kinds.Givings.add.Goals as goal

pub returns : goal.returns
returns c d b =
    told-added c.args.self.now.told c.insert.new.self c.in_ok-copy.field-0 c.in_ok-copy-2.field-0 c.args.giving.now.collection c.args.giving.now.attribute c.and.result c.args.giving.now.kind.kind
    c.in_ok-copy.ensures c.in_ok-copy-2.ensures (c.and.ensures ∙ ap (λ t. both t (One c.args.giving.now.kind.kind)) c.in_ok-told.ensures) c.in_ok-insert.ensures.updates.0 d b
