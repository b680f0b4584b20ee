-- A node among the members of one collection.
use Rattle.std.specs.Prelude.{◌≡◌, List}
use Rattle.std.specs.declared.cmp.Ordering.{Ordering}
use Rattle.std.specs.Ordering.{is_eq}
use Rattle.std.specs.List.Sorted.{IsStrictlySortedBy}
use Rattle.std.proofs.Common.{refl, sym, ap, ◌∙◌, subst}
use Rattle.std.proofs.lemmas.List.{map-id}
use Rattle.sd_value.specs.Order.{bytes_cmp}
use Rattle.sd_value.specs.OrderLaws.{bytes_cmp-exact, bytes_cmp-total}
use Rattle.graph_spec.specs.DataGraph.{DataGraph, Name, node, HasMember}
use Rattle.graph_spec.specs.Orders.{member_cmp}
use Rattle.graph_spec.specs.Steps.{IsMemberValue}
use Rattle.graph_spec.specs.declared.Member.{Member}
use Rattle.list_lookup.specs.Picked.{in_place, IsPlaced, HasOne}
use Rattle.list_lookup.specs.PickedLaws.{in_place-is, picked-ascends, filter-sound, filter-complete}
use Rattle.list_lookup.proofs.Placed.{after_tie, names_tied, not_both, placed}
use Rattle.edge_queries.specs.Places.{at_collection}

-- they are in the order of their names
pub placed_named : (collection name : Name) (ms : List Member) → IsStrictlySortedBy member_cmp ms → IsPlaced (λ m. bytes_cmp m.node name) (in_place (at_collection collection) ms)
placed_named collection name ms up =
    placed by_node bytes_cmp bytes_cmp-total (λ m. m.node) name (in_place (at_collection collection) ms)
    (λ x y h k. not_both (bytes_cmp x.node y.node) h k)
    (subst (IsStrictlySortedBy by_node) (map-id (in_place (at_collection collection) ms))
    (picked-ascends member_cmp by_node (at_collection collection) (λ m. m)
    (record {
      at = λ x y h k less.
          let same : x.collection ≡ y.collection = bytes_cmp-exact x.collection collection h ∙ sym (bytes_cmp-exact y.collection collection k) in
          sym (after_tie (bytes_cmp x.collection y.collection) (bytes_cmp x.node y.node) (names_tied x.collection y.collection same)) ∙ less;
    })
    ms up))
  where
    by_node : Member → Member → Ordering
    by_node x y = bytes_cmp x.node y.node

node_name : (m n : Name) → node m ≡ node n → m ≡ n
node_name m n e = cc

pub named_found : (G : DataGraph) (collection name : Name)
    → (HasOne (λ m. bytes_cmp m.node name) (in_place (at_collection collection) G.members) → IsMemberValue G collection (node name))
    × (IsMemberValue G collection (node name) → HasOne (λ m. bytes_cmp m.node name) (in_place (at_collection collection) G.members))
named_found G collection name = (
  λ (m, at, is).
      let (there, tied) = filter-sound (λ x. is_eq (at_collection collection x)) G.members m at in
      let here : m.node ≡ name = bytes_cmp-exact m.node name is in
      (m.node, subst (λ c. HasMember G c m.node) (bytes_cmp-exact m.collection collection (in_place-is (at_collection collection m) tied)) there, ap node (sym here)),
  λ (n, has, is).
      let same : n ≡ name = node_name n name (sym is) in
      (record { collection = collection; node = n }, filter-complete (λ x. is_eq (at_collection collection x)) G.members _ has (ap is_eq (names_tied collection collection refl)), names_tied n name same),
)
