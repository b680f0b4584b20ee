-- The statements of which a site's graph is made, source after source.
use Rattle.std.specs.Prelude.{◌≡◌, ◌⊎◌, List}
use Rattle.sd_value.specs.Names.{Name, Label}
use Rattle.sd_value.specs.declared.Datum.TheVariants.{Node}
use Rattle.sd_value.specs.declared.Term.{Term}
use Rattle.sd_value.specs.declared.Value.{Value}
use Rattle.sd_value.specs.declared.Value.TheVariants.{Data, Page}
use Rattle.graph_spec.specs.DataGraph.{DataGraph}
use Rattle.graph_spec.specs.Statement.{Statement, a_node, a_member, an_edge}
use Rattle.graph_spec.specs.declared.Edge.{Edge}
use Rattle.graph_spec.specs.declared.Member.{Member}
use Rattle.page_spec.specs.Show.{address}
use Rattle.page_spec.specs.Site.{Site}
use Rattle.site_spec.specs.Site.{SomeOf}
use Rattle.compose_spec.specs.Composed.{node_name, encoded}

-- of a node of the data
abbrev pub data_node : Name → Statement
data_node n = a_node (node_name n)

-- of a page
abbrev pub page_node : Term → Statement
page_node t = a_node (address t)

-- of an edge from a node of the site's graph to a value
abbrev pub link_from : Name → Label → Value → Statement
link_from n label v = an_edge n label (Data (encoded v))

-- of an edge of the data
abbrev pub data_edge : Edge → Statement
data_edge e = link_from (node_name e.from) e.label e.to

-- of a member of the data
abbrev pub data_member : Member → Statement
data_member m = a_member m.collection (node_name m.node)

-- of the data's nodes, or of pages
abbrev pub IsNodeStated : List Name → List Term → Statement → Type 0
IsNodeStated names pages s =
    SomeOf (λ n. data_node n ≡ s) names ⊎ SomeOf (λ t. page_node t ≡ s) pages

-- of the data's edges and members
abbrev pub IsDataStated : DataGraph → Statement → Type 0
IsDataStated graph s =
    SomeOf (λ e. data_edge e ≡ s) graph.edges ⊎ SomeOf (λ m. data_member m ≡ s) graph.members

-- of a value that is a node or a page, as a member
pub record IsPutAs (collection : Name) (v : Value) (s : Statement) : Type 0 where
  pub name : Name
  pub is : encoded v ≡ Node name
  pub says : a_member collection name ≡ s

module _ (site : Site) where
  -- of a link by the label from the page, which has this name
  pub record IsLinkBy (page : Value) (name : Name) (label : Label) (s : Statement) : Type 0 where
    pub end : Value
    pub linked : site.edge page label end
    pub says : link_from name label end ≡ s

  -- of a link from the page by one of the labels
  abbrev pub IsLinkOf : List Label → Term → Statement → Type 0
  IsLinkOf labels t s = SomeOf (λ label. IsLinkBy (Page t) (address t) label s) labels

  -- of a link from one of the pages
  abbrev pub IsLink : List Term → List Label → Statement → Type 0
  IsLink pages labels s = SomeOf (λ t. IsLinkOf labels t s) pages

  -- of what is collected under the name
  pub record IsPutIn (collection : Name) (s : Statement) : Type 0 where
    pub value : Value
    pub collected : site.collected collection value
    pub put : IsPutAs collection value s

  -- of what is collected under one of the names
  abbrev pub IsPut : List Name → Statement → Type 0
  IsPut collections s = SomeOf (λ c. IsPutIn c s) collections

  -- of the pages' links, or of what is collected
  abbrev pub IsSiteStated : List Term → List Label → List Name → Statement → Type 0
  IsSiteStated pages labels collections s = IsLink pages labels s ⊎ IsPut collections s

  -- of the edges and members of the data and of the site
  abbrev pub IsStated : DataGraph → List Term → List Label → List Name → Statement → Type 0
  IsStated graph pages labels collections s =
      IsDataStated graph s ⊎ IsSiteStated pages labels collections s
