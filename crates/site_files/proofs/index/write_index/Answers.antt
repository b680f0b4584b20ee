use Rattle.std.proofs.Common.{refl, sym, subst}
use Rattle.std.specs.Prelude.{Contains}
use Rattle.std.proofs.lemmas.Result.{err_from_is_err_and}
use Rattle.site_files.proofs.Writing.{index_among, index_absent, index_short}
use Rattle.site_files.proofs.InTurn.{among_told, absent_told}
use Rattle.site_files.proofs.Among.{not_among}
use Rattle.site_files.proofs.index.write_index.Goals as goal

pub returns-then-is_among-clause-ends : goal.returns-then-is_among-clause-ends
returns-then-is_among-clause-ends g c = λ old told.
    among_told (g.P.Pages.site (g.P.Pages.fixed c.args.pages.now)) (g.P.Pages.templates (g.P.Pages.fixed c.args.pages.now)) c.args.folder.now (g.F.Files.contents c.put_index.new.files) c.args.names.now c.args.root.now c.in_ok-page.page old c.put_index.result c.in_ok-page.ensures (c.is_among.ensures.0 c.if-is_among.true) (c.put_index.ensures.ends old told)

pub returns-clause-ends : goal.returns-clause-ends
returns-clause-ends g c = λ old told.
    absent_told (g.P.Pages.site (g.P.Pages.fixed c.args.pages.now)) (g.P.Pages.templates (g.P.Pages.fixed c.args.pages.now)) c.args.folder.now (g.F.Files.contents c.args.files.now) (g.F.Files.contents c.args.files.now) c.args.names.now c.args.root.now old refl told
    (λ h. not_among c.is_among.result c.if-is_among.false c.is_among.ensures (subst (Contains c.args.names.now) (sym c.in_ok-page.ensures) h))

pub returns-then-is_among-clause-cause : goal.returns-then-is_among-clause-cause
returns-then-is_among-clause-cause g c = record {
  later = c.put_index.ensures.cause.later;
  failed = λ path e.
      let r = c.put_index.ensures.cause.failed path e in
      ((subst (Contains c.args.names.now) c.in_ok-page.ensures (c.is_among.ensures.0 c.if-is_among.true), r.0), r.1);
}

pub returns-then-is_among-clause-traced : goal.returns-then-is_among-clause-traced
returns-then-is_among-clause-traced g c =
    index_among (g.P.Pages.site (g.P.Pages.fixed c.args.pages.now)) (g.P.Pages.templates (g.P.Pages.fixed c.args.pages.now)) c.args.folder.now (g.F.Files.contents c.args.files.now) (g.F.Files.contents c.put_index.new.files) c.args.names.now c.args.root.now c.in_ok-page.page _ _ c.put_index.result c.in_ok-page.ensures (c.is_among.ensures.0 c.if-is_among.true) c.put_index.ensures.traced

pub returns-clause-traced : goal.returns-clause-traced
returns-clause-traced g c =
    index_absent (g.P.Pages.site (g.P.Pages.fixed c.args.pages.now)) (g.P.Pages.templates (g.P.Pages.fixed c.args.pages.now)) c.args.folder.now (g.F.Files.contents c.args.files.now) (g.F.Files.contents c.args.files.now) c.args.names.now c.args.root.now _ refl
    (λ h. not_among c.is_among.result c.if-is_among.false c.is_among.ensures (subst (Contains c.args.names.now) (sym c.in_ok-page.ensures) h))

pub returns-in_err-page-clause-traced : goal.returns-in_err-page-clause-traced
returns-in_err-page-clause-traced g c =
    let p = err_from_is_err_and c.from_residual.result c.from_residual.ensures.1 in
    rw (p.1, p.2) (index_short (g.P.Pages.site (g.P.Pages.fixed c.args.pages.now)) (g.P.Pages.templates (g.P.Pages.fixed c.args.pages.now)) c.args.folder.now (g.F.Files.contents c.args.files.now) (g.F.Files.contents c.args.files.now) c.args.names.now c.args.root.now (g.F.Files.trace c.args.files.now) refl)
