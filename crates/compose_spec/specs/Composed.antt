-- A site as a data graph, over which a second query may be asked.
use Rattle.std.specs.Prelude.{◌≡◌, ◌⊎◌, ◌==◌, Bool, false, List, [], ◌∷◌, Contains, if◌then◌else◌}
use Rattle.sd_value.specs.Names.{Name}
use Rattle.sd_value.specs.declared.Datum.{Datum}
use Rattle.sd_value.specs.declared.Datum.TheVariants.{Node}
use Rattle.sd_value.specs.declared.Term.{Term}
use Rattle.sd_value.specs.declared.Value.{Value}
use Rattle.sd_value.specs.declared.Value.TheVariants.{Data, Page}
use Rattle.sd_value.specs.Order.{bytes_cmp}
use Rattle.sd_value.specs.Ascending.{ListsExactly}
use Rattle.graph_spec.specs.DataGraph.{DataGraph}
use Rattle.graph_spec.specs.Orders.{edge_cmp, member_cmp}
use Rattle.graph_spec.specs.declared.Edge.{Edge}
use Rattle.graph_spec.specs.declared.Member.{Member}
use Rattle.page_spec.specs.Show.{address}
use Rattle.page_spec.specs.Site.{Site}
use Rattle.page_spec.specs.Address.{IsAddressable}

-- the first byte is `/`
abbrev pub begins_with_slash : Name → Bool
begins_with_slash [] = false
begins_with_slash (b ∷ bs) = b == 47

-- The name that a node of the data has in a site's graph. What begins with `/` is left to pages:
-- such a node's name begins with one `/` more.
abbrev pub node_name : Name → Name
node_name n = if begins_with_slash n then 47 ∷ n else n

-- what a value of the site is in the site's graph: a page is the node of its address
abbrev pub encoded : Value → Datum
encoded (Page t) = Node (address t)
encoded (Data (Node n)) = Node (node_name n)
encoded (Data d) = d

-- a value that is a page is one that an address can name
abbrev pub IsNameable : Value → Type 0
IsNameable (Page t) = IsAddressable t
IsNameable (Data d) = Unit {0}

module _ (site : Site) where
  -- an edge of the site, its ends encoded
  abbrev pub IsEdgeOf : Edge → Type 0
  IsEdgeOf e =
      (u : Value) × (v : Value) × site.edge u e.label v × (encoded u ≡ Node e.from)
      × (e.to ≡ Data (encoded v))

  -- a node or a page that is collected, encoded
  abbrev pub IsMemberOf : Member → Type 0
  IsMemberOf m = (v : Value) × site.collected m.collection v × (encoded v ≡ Node m.node)

-- over a site, and the names of the data's declared nodes
module _ (site : Site) (names : List Name) where
  -- a node of the data, or a page of the site
  abbrev pub IsNodeOf : Name → Type 0
  IsNodeOf n =
      ((m : Name) × Contains names m × (node_name m ≡ n))
      ⊎ ((t : Term) × site.has t × (address t ≡ n))

  -- the graph has exactly these nodes, edges and members
  pub record IsSiteGraph (graph : DataGraph) : Type 0 where
    pub nodes : ListsExactly bytes_cmp IsNodeOf graph.nodes
    pub edges : ListsExactly edge_cmp (IsEdgeOf site) graph.edges
    pub members : ListsExactly member_cmp (IsMemberOf site) graph.members
