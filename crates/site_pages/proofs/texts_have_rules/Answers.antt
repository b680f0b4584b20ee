use Rattle.site_pages.specs.Rules.{the_rules}
use Rattle.site_pages.proofs.texts_have_rules.Goals as goal

pub returns : goal.returns
returns c = the_rules
