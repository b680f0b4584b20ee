use Rattle.site_lint.proofs.Data.{no_member}
use Rattle.site_lint.proofs.lookups.has_no_member.Goals as goal

pub returns : goal.returns
returns g c = no_member (g.S.Store.graph c.args.store.now) c.args.name.now c.members_of.result c.members_of.ensures
