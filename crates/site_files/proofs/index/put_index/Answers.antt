use Rattle.std.proofs.Common.{subst}
use Rattle.page_spec.specs.Page.{IsOutcome}
use Rattle.page_spec.specs.declared.Outcome.TheVariants as outcome
use Rattle.page_spec.proofs.Texts.{outcome_unique}
use Rattle.site_files.proofs.Writing.{index_put, index_failed}
use Rattle.site_files.proofs.InTurn.{index_told, no_index_told}
use Rattle.site_files.proofs.index.put_index.Goals as goal

pub unreachable-requires : goal.unreachable-requires
unreachable-requires g c =
    c.in_default.not-Page c.requires.text.0
    (outcome_unique (g.P.Pages.site (g.P.Pages.fixed c.args.pages.now)) (g.P.Pages.templates (g.P.Pages.fixed c.args.pages.now)) c.args.page.now c.in_ok-text.field-0 (outcome.Page c.requires.text.0) c.in_ok-text.ensures.outcome c.requires.text.1)

pub returns-in-Ok-clause-ends : goal.returns-in-Ok-clause-ends
returns-in-Ok-clause-ends g c = λ old told.
    index_told (g.P.Pages.site (g.P.Pages.fixed c.args.pages.now)) (g.P.Pages.templates (g.P.Pages.fixed c.args.pages.now)) c.args.folder.now (g.F.Files.contents c.write.new.self) c.args.page.now c.in_ok-path.path c.bytes.result.now c.in-Page.text old c.in_ok-path.ensures c.bytes.ensures
    (subst (IsOutcome (g.P.Pages.site (g.P.Pages.fixed c.args.pages.now)) (g.P.Pages.templates (g.P.Pages.fixed c.args.pages.now)) c.args.page.now) c.in-Page.is c.in_ok-text.ensures.outcome)
    (c.in-Ok.ensures.written old told)

pub returns-clause-ends : goal.returns-clause-ends
returns-clause-ends g c = λ old told. no_index_told (g.P.Pages.site (g.P.Pages.fixed c.args.pages.now)) (g.P.Pages.templates (g.P.Pages.fixed c.args.pages.now)) c.args.folder.now (g.F.Files.contents c.write.new.self) c.args.page.now c.in_ok-path.path old c.in_ok-path.ensures (c.in-Err.ensures.elsewhere old told)

pub returns-in-Ok-clause-traced : goal.returns-in-Ok-clause-traced
returns-in-Ok-clause-traced g c =
    index_put (g.P.Pages.site (g.P.Pages.fixed c.args.pages.now)) (g.P.Pages.templates (g.P.Pages.fixed c.args.pages.now)) c.args.folder.now (g.F.Files.contents c.args.files.now) (g.F.Files.contents c.write.new.self) c.args.page.now c.in_ok-path.path c.bytes.result.now c.in-Page.text _ _ c.in-Ok.field-0 c.in_ok-path.ensures c.bytes.ensures
    (subst (IsOutcome (g.P.Pages.site (g.P.Pages.fixed c.args.pages.now)) (g.P.Pages.templates (g.P.Pages.fixed c.args.pages.now)) c.args.page.now) c.in-Page.is c.in_ok-text.ensures.outcome)
    c.in-Ok.ensures.traced c.in-Ok.ensures.written c.in-Ok.ensures.stored

pub returns-clause-traced : goal.returns-clause-traced
returns-clause-traced g c = index_failed (g.P.Pages.site (g.P.Pages.fixed c.args.pages.now)) (g.P.Pages.templates (g.P.Pages.fixed c.args.pages.now)) c.args.folder.now (g.F.Files.contents c.args.files.now) (g.F.Files.contents c.write.new.self) c.args.page.now c.in_ok-path.path _ _ c.in_ok-path.ensures c.in-Err.ensures.traced
