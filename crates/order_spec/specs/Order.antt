-- The graph that an ORDER makes of a graph: the members of a collection in the order of their keys,
-- and edges that tell of it.
use Rattle.std.specs.Prelude.{ℕ, ◌+◌, ◌/◌, pos, Bool, true, false, ◌&&◌, List, [], ◌∷◌, ◌++◌, map, filter, fold, Option, Some, None, if◌then◌else◌}
use Rattle.std.specs.List.{flat_map}
use Rattle.std.specs.BTreeSet.{insert_key}
use Rattle.std.specs.declared.cmp.Ordering.{Ordering}
use Rattle.std.specs.Ordering.{on, then_cmp, is_lt, eq_by_cmp}
use Rattle.sd_value.specs.declared.Datum.TheVariants.{Int, Node}
use Rattle.sd_value.specs.declared.Value.{Value}
use Rattle.sd_value.specs.declared.Value.TheVariants.{Data, Page}
use Rattle.sd_value.specs.Names.{Label, Word}
use Rattle.sd_value.specs.Order.{bytes_cmp}
use Rattle.graph_spec.specs.declared.Edge.{Edge}
use Rattle.graph_spec.specs.declared.Member.{Member}
use Rattle.graph_spec.specs.Orders.{edge_cmp}
use Rattle.graph_spec.specs.DataGraph.{DataGraph, Name, node}
use Rattle.key_spec.specs.Keys.{folded_cmp, turned_cmp, keyed_cmp}

-- an edge that each member is given
pub data Place : Type 0 where
  -- to its number in the order, from 1
  position : Label → Place
  -- to the member after it
  next : Label → Place
  -- to the member before it
  previous : Label → Place
  -- to the number of its page, from 1, where each page has this many members
  page : Label → ℕ → Place

-- an ORDER: of which collection, by which word, how, and what each member is given
pub record Order : Type 0 where
  pub collection : Name
  pub word : Word
  pub fold : Bool
  pub descend : Bool
  pub places : List Place

-- ---- keys

abbrev pub same : Name → Name → Bool
same = eq_by_cmp bytes_cmp

-- the ends of a value's edges by a label
abbrev pub ends : DataGraph → Label → Value → List Value
ends G l (Data (Node n)) = map (λ e. e.to) (filter (λ e. same e.from n && same e.label l) G.edges)
ends G l v = []

-- the values that a word reaches
abbrev pub reached : DataGraph → Word → Value → List Value
reached G [] v = v ∷ []
reached G (l ∷ rest) v = flat_map (reached G rest) (ends G l v)

-- the first of the least
abbrev pub least : (Value → Value → Ordering) → List Value → Option Value
least R [] = None
least R (v ∷ vs) = Some (fold (λ a b. if is_lt (R b a) then b else a) v vs)

-- ---- the order of members

-- by key, ties by node. `f` is how texts are folded
abbrev pub order_cmp : (Name → Name) → DataGraph → Order → Name → Name → Ordering
order_cmp f G o =
    let R = folded_cmp f o.fold in
    then_cmp
    (on (λ n. least R (reached G o.word (node n))) (keyed_cmp (turned_cmp o.descend R))) bytes_cmp

-- the nodes of a collection
abbrev pub nodes_in : DataGraph → Name → List Name
nodes_in G collection = map (λ m. m.node) (filter (λ m. same m.collection collection) G.members)

-- in the order
abbrev pub in_order : (Name → Name) → DataGraph → Order → List Name
in_order f G o = fold (insert_key (order_cmp f G o)) [] (nodes_in G o.collection)

-- ---- what is added

abbrev pub edge : Name → Label → Value → Edge
edge n l v = record { from = n; label = l; to = v }

abbrev pub edge_to : Name → Label → Option Name → List Edge
edge_to n l None = []
edge_to n l (Some m) = edge n l (node m) ∷ []

-- the edge of the place for the member n, which has i members before it
abbrev pub edges_at : Place → ℕ → Option Name → Name → Option Name → List Edge
edges_at (position l) i before n after = edge n l (Data (Int (pos (i + 1)))) ∷ []
edges_at (next l) i before n after = edge_to n l after
edges_at (previous l) i before n after = edge_to n l before
edges_at (page l k) i before n after = edge n l (Data (Int (pos (i / k + 1)))) ∷ []

abbrev pub first : List Name → Option Name
first [] = None
first (n ∷ ns) = Some n

-- the edges of all places for all members, of which i have come before
abbrev pub edges_along : List Place → ℕ → Option Name → List Name → List Edge
edges_along places i before [] = []
edges_along places i before (n ∷ ns) =
    flat_map (λ p. edges_at p i before n (first ns)) places
    ++ edges_along places (i + 1) (Some n) ns

-- the graph with them
abbrev pub ordered : (Name → Name) → Order → DataGraph → DataGraph
ordered f o G =
    record G {
      edges = fold (insert_key edge_cmp) G.edges
          (edges_along o.places 0 None (in_order f G o));
    }

-- the graph that ORDERs make, one after another
abbrev pub all_ordered : (Name → Name) → List Order → DataGraph → DataGraph
all_ordered f [] G = G
all_ordered f (o ∷ os) G = all_ordered f os (ordered f o G)
