-- Members with their keys in order are the members in order.
use Rattle.std.proofs.Common.{◌≡◌, Bool, true, false, List, [], ◌∷◌, map, Option, Some, None, refl, sym, ap, ◌∙◌, subst}
use Rattle.std.specs.Prelude.{Contains}
use Rattle.std.specs.Option.{option_map}
use Rattle.std.specs.List.{AllByRecursion}
use Rattle.std.specs.List.Sorted.{IsStrictlySortedBy}
use Rattle.std.specs.declared.cmp.Ordering.{Ordering}
use Rattle.std.specs.declared.cmp.Ordering.TheVariants.{Less}
use Rattle.std.specs.Ordering.{ordering_then}
use Rattle.sd_value.specs.Names.{Name}
use Rattle.sd_value.specs.Order.{bytes_cmp}
use Rattle.sd_value.specs.Ascending.{ListsExactly}
use Rattle.sd_value.specs.AscendingLaws.{one_list}
use Rattle.sd_value.specs.Members.{Contains-here, Contains-there, Contains-map, Contains-mapped}
use Rattle.sd_value.specs.declared.Value.{Value}
use Rattle.graph_spec.specs.DataGraph.{DataGraph, HasMember, node}
use Rattle.key_spec.specs.Keys.{folded_text, folded_cmp, turned_cmp, keyed_cmp}
use Rattle.order_spec.specs.Order.{Order, least, reached, order_cmp, nodes_in, in_order}
use Rattle.order_laws.proofs.Keys.{order_total, member, of_member, in_order_exactly}
use Rattle.sort_keys.specs.Keys.{key_of, key_cmp}
use Rattle.graph_order.specs.Keys.{ranked, ranked_by, ranked_cmp}
use Rattle.graph_order.specs.declared.members.Ranked.{Ranked}
use Rattle.graph_order.proofs.Least.{keys_order}

module _ (G : DataGraph) (o : Order) where
  abbrev order : Name → Name → Ordering
  order = order_cmp folded_text G o

  abbrev pub rank : Name → Ranked
  rank = ranked_by o.descend o.fold G o.word

  abbrev values : Value → Value → Ordering
  values = folded_cmp folded_text o.fold

  abbrev best : Name → Option Value
  best n = least values (reached G o.word (node n))

  upwards : (u v : Option Value)
      → keyed_cmp (turned_cmp false key_cmp) (option_map (key_of o.fold) u) (option_map (key_of o.fold) v) ≡ keyed_cmp (turned_cmp false values) u v
  upwards (Some u) (Some v) = keys_order o.fold u v
  upwards (Some u) None = refl
  upwards None (Some v) = refl
  upwards None None = refl

  downwards : (u v : Option Value)
      → keyed_cmp (turned_cmp true key_cmp) (option_map (key_of o.fold) u) (option_map (key_of o.fold) v) ≡ keyed_cmp (turned_cmp true values) u v
  downwards (Some u) (Some v) = keys_order o.fold v u
  downwards (Some u) None = refl
  downwards None (Some v) = refl
  downwards None None = refl

  by_way : (d : Bool) (m n : Name)
      → ranked_cmp (ranked d (option_map (key_of o.fold) (best m)) m) (ranked d (option_map (key_of o.fold) (best n)) n)
      ≡ ordering_then (keyed_cmp (turned_cmp d values) (best m) (best n)) (bytes_cmp m n)
  by_way false m n = ap (λ (r : Ordering). ordering_then r (bytes_cmp m n)) (upwards (best m) (best n))
  by_way true m n = ap (λ (r : Ordering). ordering_then r (bytes_cmp m n)) (downwards (best m) (best n))

  same_order : (m n : Name) → ranked_cmp (rank m) (rank n) ≡ order m n
  same_order m n = by_way o.descend m n

  below : (r : Ranked) (rs : List Ranked) → r ≡ rank r.node → ((s : Ranked) → Contains rs s → s ≡ rank s.node)
      → AllByRecursion (λ s. ranked_cmp r s ≡ Less) rs → AllByRecursion (λ n. order r.node n ≡ Less) (map (λ (s : Ranked). s.node) rs)
  below r [] own is h = tt
  below r (s ∷ rs) own is h = (
    sym (same_order r.node s.node) ∙ sym (λ i. ranked_cmp (own i) (is s (Contains-here s rs) i)) ∙ h.0,
    below r rs own (λ t c. is t (Contains-there s rs t c)) h.1,
  )

  ascends : (rs : List Ranked) → ((s : Ranked) → Contains rs s → s ≡ rank s.node)
      → IsStrictlySortedBy ranked_cmp rs → IsStrictlySortedBy order (map (λ (s : Ranked). s.node) rs)
  unfolding IsStrictlySortedBy
  ascends [] is up = tt
  ascends (r ∷ rs) is up = (
    below r rs (is r (Contains-here r rs)) (λ t c. is t (Contains-there r rs t c)) up.0,
    ascends rs (λ t c. is t (Contains-there r rs t c)) up.1,
  )

  module _ (rs : List Ranked) (all : ListsExactly ranked_cmp (Contains (map rank (nodes_in G o.collection))) rs) where
    from_node : (s : Ranked) → Contains rs s → (n : Name) × (rank n ≡ s) × Contains (nodes_in G o.collection) n
    from_node s c = Contains-map rank (nodes_in G o.collection) s (all.sound s c)

    rank_node : (d : Bool) (n : Name) → (ranked d (option_map (key_of o.fold) (best n)) n).node ≡ n
    rank_node false n = refl
    rank_node true n = refl

    own_rank : (s : Ranked) → Contains rs s → s ≡ rank s.node
    own_rank s c =
        let (n, is, at) = from_node s c in
        let named : n ≡ s.node = sym (rank_node o.descend n) ∙ ap (λ (r : Ranked). r.node) is in
        sym is ∙ ap rank named

    pub in_order_made : map (λ (s : Ranked). s.node) rs ≡ in_order folded_text G o
    in_order_made =
        one_list (order_total folded_text G o) (HasMember G o.collection) (map (λ (s : Ranked). s.node) rs) (in_order folded_text G o)
        (record {
          ascending = ascends rs own_rank all.ascending;
          sound = λ x c.
              let (s, named, at) = Contains-map (λ (s : Ranked). s.node) rs x c in
              let (n, is, within) = from_node s at in
              let one : n ≡ x = sym (rank_node o.descend n) ∙ ap (λ (r : Ranked). r.node) is ∙ named in
              of_member folded_text G o x (subst (Contains (nodes_in G o.collection)) one within);
          complete = λ x h.
              let there = all.complete (rank x) (Contains-mapped rank (nodes_in G o.collection) x (member folded_text G o x h)) in
              subst (Contains (map (λ (s : Ranked). s.node) rs)) (rank_node o.descend x)
              (Contains-mapped (λ (s : Ranked). s.node) rs (rank x) there);
        })
        (in_order_exactly folded_text G o)
