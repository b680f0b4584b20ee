use Rattle.std.specs.Prelude.{Contains}
use Rattle.site_lint.proofs.NameLists.{turned}
use Rattle.site_lint.proofs.lookups.is_absent.Goals as goal

pub returns : goal.returns
returns c = turned c.has.result (Contains c.args.names.now c.args.name.now) c.has.ensures
