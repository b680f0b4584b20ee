use Rattle.std.proofs.Common.{List, subst}
use Rattle.std.specs.Prelude.{Contains}
use Rattle.sd_value.specs.declared.Term.{Term}
use Rattle.sd_value.specs.Order.{term_cmp}
use Rattle.sd_value.specs.Ascending.{ListsExactly}
use Rattle.tmpl.specs.Reading.{file_of}
use Rattle.query_blocks.specs.Blocks.{scope_of}
use Rattle.site_build.specs.Materialised.{HasPageTemplate}
use Rattle.site_build.proofs.Site.{pages_listed}
use Rattle.site_build.proofs.whole.Whole.pages.Goals as goal

pub returns : goal.returns
returns g c =
    pages_listed (g.A.Asker.graph c.args.self.now.asker) (scope_of c.args.self.now.scopes.now) (file_of c.args.self.now.templates.now) c.args.self.now.contents.terms.items c.in_ok-pages.pages.items c.requires.made.all_terms
    (subst (λ (ts : List Term). ListsExactly term_cmp (λ p. Contains ts p × HasPageTemplate (file_of c.args.self.now.templates.now) p) c.in_ok-pages.pages.items) c.as_slice.ensures.value c.in_ok-pages.ensures)
