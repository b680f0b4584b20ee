use Rattle.command_page.proofs.Law.{page_decides}
use Rattle.command_page.proofs.laws.pages_are_decided.Goals as goal

pub returns : goal.returns
returns c = page_decides
