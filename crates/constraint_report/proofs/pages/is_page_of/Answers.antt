use Rattle.constraint_report.proofs.EachPage.{page_of}
use Rattle.constraint_report.proofs.pages.is_page_of.Goals as goal

pub returns-in-Page : goal.returns-in-Page
returns-in-Page c = page_of c.args.value.now c.in-Page.term c.args.function.now c.eq.result c.in-Page.is c.eq.ensures
