use Rattle.sd_ddl.proofs.Maps.{told-known}
use Rattle.sd_ddl.proofs.kinds.Kinds.by_tables.Goals as goal

pub returns : goal.returns
returns c =
    told-known c.args.parts.now (record { givings = c.args.givings; givers = c.in_ok-givers.givers; collections = c.in_ok-collections.collections; answers = c.new.result }) c.requires c.in_ok-givers.ensures c.in_ok-collections.ensures
    c.new.ensures
