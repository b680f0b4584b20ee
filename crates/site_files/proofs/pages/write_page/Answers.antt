use Rattle.std.proofs.Common.{subst}
use Rattle.page_spec.specs.Page.{IsOutcome}
use Rattle.site_files.proofs.Writing.{put_adds}
use Rattle.site_files.proofs.InTurn.{page_told}
use Rattle.site_files.proofs.pages.write_page.Goals as goal

pub returns-in-Page-clause-ends : goal.returns-in-Page-clause-ends
returns-in-Page-clause-ends g c = λ old told.
    page_told (g.P.Pages.site (g.P.Pages.fixed c.args.pages.now)) (g.P.Pages.templates (g.P.Pages.fixed c.args.pages.now)) c.args.folder.now (g.F.Files.contents c.put_page.new.files) c.args.name.now c.in-Page.text old c.put_page.result
    (subst (IsOutcome (g.P.Pages.site (g.P.Pages.fixed c.args.pages.now)) (g.P.Pages.templates (g.P.Pages.fixed c.args.pages.now)) c.args.name.now) c.in-Page.is c.in_ok-text.ensures.outcome)
    (c.put_page.ensures.ends old told)

pub returns-in-Page-clause-traced : goal.returns-in-Page-clause-traced
returns-in-Page-clause-traced g c =
    put_adds (g.P.Pages.site (g.P.Pages.fixed c.args.pages.now)) (g.P.Pages.templates (g.P.Pages.fixed c.args.pages.now)) c.args.folder.now (g.F.Files.contents c.args.files.now) (g.F.Files.contents c.put_page.new.files) c.args.name.now c.in-Page.text _ _ c.put_page.result
    (subst (IsOutcome (g.P.Pages.site (g.P.Pages.fixed c.args.pages.now)) (g.P.Pages.templates (g.P.Pages.fixed c.args.pages.now)) c.args.name.now) c.in-Page.is c.in_ok-text.ensures.outcome)
    c.put_page.ensures.named c.put_page.ensures.traced
