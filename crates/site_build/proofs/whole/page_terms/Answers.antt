use Rattle.std.proofs.Common.{◌+◌, sym, subst}
use Rattle.tmpl.specs.Reading.{file_of}
use Rattle.site_build.proofs.Pages.{PagesSoFar, no_pages, no_page_more, one_page_more, pages_kept}
use Rattle.site_build.proofs.whole.page_terms.Goals as goal

pub loop-term-init : goal.loop-term-init
loop-term-init c = no_pages (file_of c.args.templates.now) c.args.terms.now _ c.new-pages.ensures.items

pub loop-term-preserved-then-not-has_page_template : goal.loop-term-preserved-then-not-has_page_template
loop-term-preserved-then-not-has_page_template c =
    no_page_more (file_of c.args.templates.now) c.args.terms.now c.loop-term.term-index c.term-item.result c.loop-term.pages.items c.has_page_template.result c.loop-term-test.true c.term-item.is
    c.if-not-has_page_template.true c.has_page_template.ensures c.loop-term.invariant

pub loop-term-preserved : goal.loop-term-preserved
loop-term-preserved c =
    subst (PagesSoFar (file_of c.args.templates.now) c.args.terms.now (c.loop-term.term-index + 1)) (sym c.in_ok-push.ensures.items)
    (one_page_more (file_of c.args.templates.now) c.args.terms.now c.loop-term.term-index c.term-item.result c.in_ok-copy.field-0 c.loop-term.pages.items c.has_page_template.result c.requires c.loop-term-test.true c.term-item.is
    c.if-not-has_page_template.false c.has_page_template.ensures c.in_ok-copy.ensures c.loop-term.invariant)

pub returns : goal.returns
returns c = pages_kept (file_of c.args.templates.now) c.args.terms.now c.loop-term.term-index c.loop-term.pages.items c.loop-term-test.false c.loop-term.invariant
