-- The links that may carry a label, frozen block by block.
use Rattle.std.proofs.Common.{◌≡◌, List, [], ◌∷◌, refl, sym, ap, ◌∙◌, subst}
use Rattle.std.specs.Prelude.{Bool, filter, Contains}
use Rattle.std.specs.List.{flat_map}
use Rattle.sd_value.specs.Names.{Name, Label}
use Rattle.graph_spec.specs.DataGraph.{DataGraph}
use Rattle.struql_ast.specs.Reading.{link_of}
use Rattle.site_spec.specs.Site.{Scope}
use Rattle.query_blocks.specs.declared.QueryBlock.{QueryBlock}
use Rattle.query_blocks.specs.declared.QueryBlocks.{QueryBlocks}
use Rattle.query_blocks.specs.Blocks.{body_of, scope_of}
use Rattle.constraint_spec.specs.Placed.{PlacedLink, body_links, links_of}
use Rattle.constraint_recheck.specs.Recheck.{may_carry}
use Rattle.constraint_recheck.proofs.Links.{may_decides}
use Rattle.inclusion.specs.declared.table.Inclusions.{Inclusions}
use Rattle.inclusion.specs.Answers.{tests_of, IsTableOf}
use Rattle.counterexample_spec.specs.Candidates.{AreCarriers, HasCarriers, mention_graphs}
use Rattle.counterexample_spec.specs.Frozen.{empty_graph}
use Rattle.query_links.specs.Links.{placed}
use Rattle.refute_site.specs.Links.{frozen_link, frozen_links, AreLinkGraphs}
use Rattle.refute_site.proofs.Lists.{flat_mapped, made_of_kept, each_alone, mapped_twice}

module _ (may : PlacedLink → Bool) (twice : Bool) (l : Label) where
  pub block_frozen : (b : QueryBlock) → flat_map (λ k. frozen_links may twice l (placed b.chain.conditions k ∷ [])) b.links.items ≡ frozen_links may twice l (body_links (body_of b))
  block_frozen b =
      made_of_kept (frozen_link twice l) may (λ k. placed b.chain.conditions k ∷ []) b.links.items
      ∙ ap (frozen_links may twice l) (each_alone (placed b.chain.conditions) b.links.items ∙ mapped_twice (λ k. record { conditions = b.chain.conditions; link = k }) link_of b.links.items)

  pub query_frozen : (q : QueryBlocks) → flat_map (λ b. frozen_links may twice l (body_links (body_of b))) q.blocks.items ≡ frozen_links may twice l (links_of (scope_of q))
  query_frozen q =
      made_of_kept (frozen_link twice l) may (λ b. body_links (body_of b)) q.blocks.items
      ∙ ap (frozen_links may twice l) (sym (flat_mapped body_links body_of q.blocks.items))

-- the links that pass by the query's table
carriers_by : (q : Scope) (t : Inclusions) → IsTableOf q t → (f : Name) (l : Label) → AreCarriers q f l (filter (may_carry (tests_of t) q.version f l) (links_of q))
carriers_by q t table f l = record {
  may = may_carry (tests_of t) q.version f l;
  decides = λ k. may_decides (Contains table.known) (tests_of t) table.tests q.version f l k;
  kept = refl;
}

pub carriers_of : (q : Scope) (t : Inclusions) → IsTableOf q t → (f : Name) (asked l : Label) → asked ≡ l → AreCarriers q f l (filter (may_carry (tests_of t) q.version f asked) (links_of q))
carriers_of q t table f asked l e = subst (λ (k : Label). AreCarriers q f l (filter (may_carry (tests_of t) q.version f k) (links_of q))) (sym e) (carriers_by q t table f l)

-- behind the empty graph
pub of_mentions : (q : Scope) (f : Name) (graphs : List DataGraph) → graphs ≡ mention_graphs q f → empty_graph ∷ graphs ≡ empty_graph ∷ mention_graphs q f
of_mentions q f graphs e = ap (λ (l : List DataGraph). empty_graph ∷ l) e

pub of_links : (q : Scope) (f : Name) (l : Label) (frozen : List PlacedLink → List DataGraph) (graphs : List DataGraph) → AreLinkGraphs q f l frozen graphs → HasCarriers q f l frozen (empty_graph ∷ graphs)
of_links q f l frozen graphs (links, are, e) = (links, are, ap (λ (z : List DataGraph). empty_graph ∷ z) e)
