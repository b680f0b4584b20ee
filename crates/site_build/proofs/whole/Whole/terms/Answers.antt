use Rattle.std.proofs.Common.{◌∙◌, sym, subst}
use Rattle.sd_value.specs.Order.{term_cmp}
use Rattle.sd_value.specs.Ascending.{ListsExactly}
use Rattle.query_blocks.specs.Blocks.{scope_of}
use Rattle.site_spec.specs.Site.{InSite}
use Rattle.site_build.proofs.whole.Whole.terms.Goals as goal

pub returns : goal.returns
returns g c = subst (ListsExactly term_cmp (InSite (g.A.Asker.graph c.args.self.now.asker) (scope_of c.args.self.now.scopes.now))) (sym (c.in_ok-terms.ensures ∙ c.as_slice.ensures.value)) c.requires.made.all_terms
