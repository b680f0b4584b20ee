-- Values that came from a well-formed graph are values of it.
use Rattle.std.proofs.Common.{◌≡◌, List, map, refl, sym, subst}
use Rattle.std.specs.Prelude.{Contains, Bool}
use Rattle.sd_value.specs.declared.Datum.TheVariants.{Int, Text, Url, File, Node}
use Rattle.sd_value.specs.declared.Value.{Value}
use Rattle.sd_value.specs.declared.Value.TheVariants.{Data, Page}
use Rattle.sd_value.specs.Ascending.{ListsExactly}
use Rattle.sd_value.specs.Order.{value_cmp}
use Rattle.graph_spec.specs.declared.Edge.{Edge as GraphEdge}
use Rattle.graph_spec.specs.DataGraph.{DataGraph, Name, IsWellFormed, IsValueOf, IsEnd, HasEdge, node}
use Rattle.graph_spec.specs.Orders.{edge_cmp}
use Rattle.graph_spec.specs.Steps.{IsStart, IsLabelled, IsMemberValue}
use Rattle.candidate_values.specs.Offers.{AreInGraph}
use Rattle.candidate_values.proofs.Parts.{from_map}

module _ (G : DataGraph) where
  end_is_value : (e : GraphEdge) (v : Value) → IsWellFormed G → Contains G.edges e → e.to ≡ v → IsEnd G v → IsValueOf G v
  end_is_value e (Data (Node n)) wf c is h = h
  end_is_value e (Data (Int n)) wf c is h = (e, c, is)
  end_is_value e (Data (Text t)) wf c is h = (e, c, is)
  end_is_value e (Data (Url t)) wf c is h = (e, c, is)
  end_is_value e (Data (File t)) wf c is h = (e, c, is)
  end_is_value e (Page p) wf c is h = h

  pub edge_end : (u : Value) (label : Name) (v : Value) → HasEdge G u label v → IsWellFormed G → IsValueOf G v
  edge_end (Data (Node n)) label v edge wf = let e : GraphEdge = record { from = n; label = label; to = v } in end_is_value e v wf edge refl (wf.ends_are_data e edge)
  edge_end u label v edge wf = absurd edge

  pub edge_start : (u : Value) (label : Name) (v : Value) → HasEdge G u label v → IsWellFormed G → IsValueOf G u
  edge_start (Data (Node n)) label v edge wf = wf.starts_are_nodes (record { from = n; label = label; to = v }) edge
  edge_start u label v edge wf = absurd edge

  pub member_value : (collection : Name) (v : Value) → IsMemberValue G collection v → IsWellFormed G → IsValueOf G v
  member_value collection v h wf = subst (IsValueOf G) (sym h.2) (wf.members_are_nodes (record { collection = collection; node = h.0 }) h.1)

  pub ends_in_graph : (u : Value) (label : Name) (values : List Value) (b : Bool) → ListsExactly value_cmp (HasEdge G u label) values → AreInGraph G b values
  ends_in_graph u label values b h told wf v c = edge_end u label v (h.sound v c) wf

  pub starts_in_graph : (v : Value) (label : Name) (values : List Value) (b : Bool) → ListsExactly value_cmp (IsStart G v label) values → AreInGraph G b values
  starts_in_graph v label values b h told wf u c = edge_start u label v (h.sound u c) wf

  pub members_in_graph : (collection : Name) (values : List Value) (b : Bool) → ListsExactly value_cmp (IsMemberValue G collection) values → AreInGraph G b values
  members_in_graph collection values b h told wf v c = member_value collection v (h.sound v c) wf

  -- the starts of edges of a label
  pub edge_starts_in_graph : (label : Name) (edges : List GraphEdge) (values : List Value) (b : Bool) → ListsExactly edge_cmp (IsLabelled G label) edges → ListsExactly value_cmp (Contains (map (λ e. node e.from) edges)) values → AreInGraph G b values
  edge_starts_in_graph label edges values b he h told wf u c =
      let r = from_map (λ e. node e.from) edges u (h.sound u c) in
      subst (IsValueOf G) r.2 (wf.starts_are_nodes r.0 (he.sound r.0 r.1).0)
