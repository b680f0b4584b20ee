use Rattle.site_lint.proofs.NameLists.{other}
use Rattle.site_lint.proofs.judged.is_other.Goals as goal

pub returns-in-Some : goal.returns-in-Some
returns-in-Some c = other c.eq.result c.in-Some.root c.args.function.now c.args.root.now c.in-Some.is c.eq.ensures
