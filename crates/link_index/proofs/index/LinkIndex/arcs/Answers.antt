use Rattle.std.proofs.Common.{◌↔◌, List, sym, subst}
use Rattle.std.specs.Prelude.{Contains, map}
use Rattle.site_spec.specs.Site.{Scope}
use Rattle.query_blocks.specs.Blocks.{scope_of}
use Rattle.link_index.specs.declared.gathered.ArcLink.{ArcLink}
use Rattle.link_index.specs.Links.{arc_links}
use Rattle.link_index.specs.Found.{arc_name}
use Rattle.link_index.proofs.index.LinkIndex.arcs.Goals as goal

pub returns : goal.returns
returns c = λ p.
    subst (λ (q : Scope). Contains (map arc_name c.as_slice.result.now) p ↔ Contains (arc_links q) p) c.self.view_is
    (subst (λ (l : List ArcLink). Contains (map arc_name l) p ↔ Contains (arc_links (scope_of c.self.inside.query.now)) p) (sym c.as_slice.ensures.value) (c.self.invariant.1.are p))
