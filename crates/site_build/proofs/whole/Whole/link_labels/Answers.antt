use Rattle.std.proofs.Common.{List, refl, subst}
use Rattle.query_blocks.specs.Blocks.{scope_of}
use Rattle.site_build.specs.declared.ordered.Joined.{Joined}
use Rattle.site_build.proofs.Site.{LabelsOf, labels_listed}
use Rattle.site_build.proofs.whole.Whole.link_labels.Goals as goal

pub returns : goal.returns
returns g c =
    labels_listed (g.A.Asker.graph c.args.self.now.asker) (scope_of c.args.self.now.scopes.now) c.args.self.now.scopes.now.blocks.items c.args.self.now.contents.links.items c.in_ok-labels.labels.keys _ c.requires.scoped refl c.requires.made.all_links
    (subst (λ (js : List Joined). LabelsOf js c.in_ok-labels.labels.keys) c.as_slice.ensures.value c.in_ok-labels.ensures)
    c.in_ok-labels-2.ensures
