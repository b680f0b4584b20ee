-- What a whole site over data says of the site's graph.
use Rattle.std.proofs.Common.{◌≡◌, List, inl, sym, subst}
use Rattle.std.specs.Prelude.{Result}
use Rattle.sd_value.specs.Names.{Name, Label}
use Rattle.sd_value.specs.Order.{bytes_cmp, term_cmp}
use Rattle.sd_value.specs.Ascending.{ListsExactly}
use Rattle.sd_value.specs.declared.Term.{Term}
use Rattle.sd_value.specs.declared.Value.{Value}
use Rattle.graph_spec.specs.DataGraph.{DataGraph}
use Rattle.sd_graph.specs.declared.Limits.{Limits}
use Rattle.sd_graph.specs.declared.GraphRefusal.{GraphRefusal}
use Rattle.site_spec.specs.Site.{Scope, InSite, Linked}
use Rattle.query_blocks.specs.declared.QueryBlocks.{QueryBlocks}
use Rattle.query_blocks.specs.Blocks.{scope_of}
use Rattle.weight_spec.specs.Site.{site_of}
use Rattle.site_build.specs.declared.contents.Contents.{Contents}
use Rattle.site_build.specs.Materialised.{IsWhole}
use Rattle.compose_spec.specs.Composed.{IsSiteGraph}
use Rattle.compose.specs.Listed.{IsListed, AnswersWithin}
use Rattle.composed_data.specs.Named.{IsCollectName}
use Rattle.composed_data.proofs.ListedSites.{listed_query}
use Rattle.site_graphs.proofs.Graphs.{site_graph_of}
use Rattle.composed_data.specs.SiteData.{SiteDataEnds}

-- the lists of a whole site are what its graph asks for
pub listed_at : (G raw : DataGraph) (scopes : QueryBlocks) (contents : Contents) → IsWhole G scopes contents → G ≡ raw
    → (terms : List Term) (labels : List Label) (names : List Name)
    → ListsExactly term_cmp (InSite G (scope_of scopes)) terms
    → ListsExactly bytes_cmp (λ l. (u : Value) × (v : Value) × Linked G (scope_of scopes) u l v) labels
    → ListsExactly bytes_cmp (IsCollectName (scope_of scopes)) names
    → IsListed (site_of G (scope_of scopes)) raw terms labels names
listed_at G raw scopes contents whole same terms labels names all_terms all_labels all_names =
    subst (λ (x : DataGraph). IsListed (site_of G (scope_of scopes)) x terms labels names) same
    (listed_query G scopes terms labels names whole.well_formed whole.scoped all_terms all_labels all_names)

-- what is said of the graph of a site, whatever it is, is said of the one that there is
pub ends_at : (G raw : DataGraph) (query asked : Scope) (limits : Limits) (end : Result DataGraph GraphRefusal)
    → G ≡ raw
    → query ≡ asked
    → ((whole : DataGraph) → IsSiteGraph (site_of G query) raw.nodes whole → AnswersWithin limits whole end)
    → SiteDataEnds limits raw asked end
ends_at G raw query asked limits end same is answers =
    let there = site_graph_of raw asked in
    inl (record {
      whole = there.0;
      is_whole = there.1;
      answers = answers there.0
          (subst (λ (q : Scope). IsSiteGraph (site_of G q) raw.nodes there.0) (sym is)
          (subst (λ (x : DataGraph). IsSiteGraph (site_of x asked) raw.nodes there.0) (sym same) there.1));
    })
