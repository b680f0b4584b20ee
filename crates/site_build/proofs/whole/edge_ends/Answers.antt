use Rattle.std.proofs.Common.{refl, sym, subst}
use Rattle.std.specs.List.Sorted.{IsStrictlySortedBy}
use Rattle.query_blocks.specs.Blocks.{scope_of}
use Rattle.site_lookups.proofs.Targets.{page_edges, data_edges}
use Rattle.site_build.specs.Ordered.{joined_cmp}
use Rattle.site_build.proofs.Site.{ends_listed}
use Rattle.site_build.proofs.whole.edge_ends.Goals as goal

pub ends_from-requires-clause-ascending : goal.ends_from-requires-clause-ascending
ends_from-requires-clause-ascending g c = subst (IsStrictlySortedBy joined_cmp) (sym c.as_slice.ensures.value) c.requires.made.all_links.ascending

pub returns-in_ok-ends-in-Page-clause-ends : goal.returns-in_ok-ends-in-Page-clause-ends
returns-in_ok-ends-in-Page-clause-ends g c =
    page_edges (g.A.Asker.graph c.args.asker.now) (scope_of c.args.scopes.now) c.in-Page.term c.args.label.now c.args.value.now c.in_ok-ends-in-Page.ends.items c.in-Page.is
    (ends_listed (g.A.Asker.graph c.args.asker.now) (scope_of c.args.scopes.now) c.args.contents.now.links.items c.as_slice.result.now c.in-Page.term c.args.label.now c.in_ok-ends-in-Page.ends.items c.as_slice.ensures.value c.requires.made.all_links c.in_ok-ends-in-Page.ensures)

pub returns-in_ok-ends-in-Data-clause-ends : goal.returns-in_ok-ends-in-Data-clause-ends
returns-in_ok-ends-in-Data-clause-ends g c =
    data_edges (g.A.Asker.graph c.args.asker.now) (scope_of c.args.scopes.now) c.args.scopes.now.blocks.items c.in-Data.field-0 c.args.label.now c.args.value.now c.in_ok-ends-in-Data.ends.items c.in-Data.is c.requires.scoped refl c.in_ok-ends-in-Data.ensures.ends
