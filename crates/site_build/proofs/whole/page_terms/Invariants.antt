use Rattle.tmpl.specs.Reading.{file_of}
use Rattle.site_build.proofs.Pages.{PagesSoFar}
use Rattle.site_build.proofs.whole.page_terms.Given as goal

abbrev pub invariant-loop-term : goal.invariant-loop-term
invariant-loop-term l = PagesSoFar (file_of l.templates) l.terms l.term-index l.pages.items
