-- The terms and labels of a whole site are those that a check of it wants.
use Rattle.std.proofs.Common.{List, [], refl, sym, subst, ⊎_elim}
use Rattle.std.specs.Prelude.{Contains}
use Rattle.std.proofs.lemmas.List.Elements.{Contains-append_left}
use Rattle.sd_value.specs.declared.Value.{Value}
use Rattle.sd_value.specs.declared.Value.TheVariants.{Page}
use Rattle.sd_value.specs.declared.Term.{Term}
use Rattle.sd_value.specs.Names.{Label}
use Rattle.sd_value.specs.Order.{bytes_cmp, term_cmp}
use Rattle.sd_value.specs.Ascending.{ListsExactly}
use Rattle.sd_value.specs.Members.{Contains-here, Contains-map}
use Rattle.graph_spec.specs.DataGraph.{DataGraph}
use Rattle.query_spec.specs.Query.{Target, made}
use Rattle.query_spec.specs.Rows.{value_in}
use Rattle.site_spec.specs.Site.{SomeOf, IsNamed, InSite, IsJoined, Linked, SiteEdge, terms_of, ends_of, target_terms}
use Rattle.site_spec.proofs.Sums.{joined_given}
use Rattle.struql_ast.specs.Reading.{link_of}
use Rattle.query_blocks.specs.declared.QueryBlocks.{QueryBlocks}
use Rattle.query_blocks.specs.Blocks.{body_of, scope_of}
use Rattle.weight_spec.specs.Site.{site_of}
use Rattle.site_lookups.proofs.Some.{some_from}
use Rattle.site_lookups.proofs.Blocks.{bodies_from, bodies_to, contains_link}
use Rattle.site_lookups.proofs.Targets.{source_to}
use Rattle.site_lookups.proofs.Stays.{edge_stays}
use Rattle.site_build.specs.declared.contents.Contents.{Contents}
use Rattle.site_build.specs.Materialised.{IsWhole}
use Rattle.constraint_report.specs.Here.{IsListed}

module _ (graph : DataGraph) (scopes : QueryBlocks) (contents : Contents) (whole : IsWhole graph scopes contents) where
  -- a page from which a link leads is named at the link's start
  starts_in_site : (p : Term) (label : Label) (v : Value) → Linked graph (scope_of scopes) (Page p) label v → InSite graph (scope_of scopes) p
  starts_in_site p label v linked =
      let s = bodies_to (λ c b. SomeOf (IsJoined graph c (Page p) label v) b.links) (scope_of scopes) scopes.blocks.items whole.scoped refl linked in
      let j = s.holds in
      let given = joined_given graph s.item.chain (Page p) label v j.item j.holds in
      let start = (whole.scoped s.item s.within).sources j.item j.within in
      let written = Contains-map link_of s.item.links.items j.item j.within in
      let ends : Contains (ends_of j.item) start.0 =
      Contains-append_left (target_terms j.item.source) (target_terms j.item.target) start.0
      (subst (λ (t : Target). Contains (target_terms t) start.0) (sym start.1) (Contains-here start.0 [])) in
      bodies_from (λ c b. SomeOf (IsNamed graph c p) (terms_of b)) (scope_of scopes) scopes.blocks.items whole.scoped refl
      (some_from (λ b. SomeOf (IsNamed graph b.chain p) (terms_of (body_of b))) scopes.blocks.items s.item s.within
      (some_from (IsNamed graph s.item.chain p) (terms_of (body_of s.item)) start.0
      (contains_link s.item written.0 start.0 written.2 (subst (λ k. Contains (ends_of k) start.0) (sym written.1) ends))
      record {
        row = given.row;
        is_row = given.is_row;
        holds = source_to (value_in s.item.chain.variables given.row) start.0 p j.item.source start.1 given.holds.0;
      }))

  link_from : (p : Term) (label : Label) (v : Value) → SiteEdge graph (scope_of scopes) (Page p) label v → Linked graph (scope_of scopes) (Page p) label v
  link_from p label v e = ⊎_elim (λ l. l) (λ none. absurd none) e

  pub listed_whole : (terms : List Term) (labels : List Label) → ListsExactly term_cmp (InSite graph (scope_of scopes)) terms
      → ListsExactly bytes_cmp (λ l. (u : Value) × (v : Value) × Linked graph (scope_of scopes) u l v) labels → IsListed (site_of graph (scope_of scopes)) terms labels
  listed_whole terms labels all_terms all_labels = record {
    sound = all_terms.sound;
    complete = all_terms.complete;
    labelled = λ p label v e. all_labels.complete label (Page p, v, link_from p label v e);
    starts = λ p label v e. starts_in_site p label v (link_from p label v e);
    ends = λ p label t e. edge_stays graph (scope_of scopes) scopes.blocks.items (Page p) label t whole.scoped refl whole.well_formed e;
  }
