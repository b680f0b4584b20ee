-- Two sites whose pages have the same links meet the same constraints.
use Rattle.std.proofs.Common.{◌⊎◌, ◌↔◌, inl, ⊎_elim}
use Rattle.sd_value.specs.declared.Value.{Value}
use Rattle.sd_value.specs.declared.Value.TheVariants.{Page}
use Rattle.sd_value.specs.declared.Term.{Term}
use Rattle.sd_value.specs.Names.{Label}
use Rattle.graph_spec.specs.DataGraph.{DataGraph}
use Rattle.site_spec.specs.Site.{Scope, InSite, Linked, SiteEdge}
use Rattle.weight_spec.specs.Site.{site_of}
use Rattle.constraint_spec.specs.declared.Constraint.{Constraint}
use Rattle.constraint_spec.specs.declared.Constraint.TheVariants.{Reachable, Each, Only, Never, One}
use Rattle.constraint_spec.specs.Meets.{LeadsTo, stays, goes, IsMet, Meets}
use Rattle.constraint_report.specs.Here.{HoldsIn}

module _ (has : Term → Type 0) (linked linked2 : Value → Label → Value → Type 0)
    (to : (p : Term) (label : Label) (v : Value) → linked (Page p) label v → linked2 (Page p) label v)
    (from : (p : Term) (label : Label) (v : Value) → linked2 (Page p) label v → linked (Page p) label v) where
  leads : (a b : Term) → LeadsTo has linked a b → LeadsTo has linked2 a b
  leads a b stays = stays
  leads a b (goes {middle = m} label last way k) = goes label last (leads a m way) (to m label (Page last) k)

  pub met_alike : (c : Constraint) → IsMet has linked c → IsMet has linked2 c
  met_alike (Reachable f root) h = λ p i fn. let r = h p i fn in record { root_in_site = r.root_in_site; led = leads _ p r.led }
  met_alike (Each f label t) h = λ p i fn. let k = h p i fn in record { end = k.end; is_linked = to p label k.end k.is_linked; is_page = k.is_page }
  met_alike (Only f label t) h = λ p v fn k. h p v fn (from p label v k)
  met_alike (Never f label) h = λ p v fn k. h p v fn (from p label v k)
  met_alike (One f label) h = λ p i fn. let k = h p i fn in record {
    end = k.end;
    is_linked = to p label k.end k.is_linked;
    single = λ v e. k.single v (from p label v e);
  }

module _ (graph : DataGraph) (query : Scope) where
  link_of_edge : (p : Term) (label : Label) (v : Value) → SiteEdge graph query (Page p) label v → Linked graph query (Page p) label v
  link_of_edge p label v e = ⊎_elim (λ l. l) (λ none. absurd none) e

  edge_of_link : (p : Term) (label : Label) (v : Value) → Linked graph query (Page p) label v → SiteEdge graph query (Page p) label v
  edge_of_link p label v l = inl l

  pub holds_alike : (c : Constraint) → HoldsIn (site_of graph query) c ↔ Meets graph query c
  holds_alike c = (
    met_alike (InSite graph query) (SiteEdge graph query) (Linked graph query) link_of_edge edge_of_link c,
    met_alike (InSite graph query) (Linked graph query) (SiteEdge graph query) edge_of_link link_of_edge c,
  )
