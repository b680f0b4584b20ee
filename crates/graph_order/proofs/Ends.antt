-- The edges that are looked up are those whose ends a word goes on from, and a name that is looked up is found.
use Rattle.std.proofs.Common.{◌≡◌, ℕ, ◌<◌, Bool, cond, ◌&&◌, List, [], ◌∷◌, length, get_or, map, refl, ap, ◌∙◌, arith, inl, inr}
use Rattle.std.specs.Prelude.{filter, Contains}
use Rattle.std.specs.List.Sorted.{IsPartitionPoint}
use Rattle.std.specs.declared.cmp.Ordering.{Ordering}
use Rattle.std.specs.declared.cmp.Ordering.TheVariants.{Less, Equal, Greater}
use Rattle.std.specs.Ordering.{is_eq, ordering_then}
use Rattle.std.proofs.lemmas.List.{get_or-map}
use Rattle.std.proofs.lemmas.Bool.{cases_lt}
use Rattle.sd_value.specs.Names.{Name, Label}
use Rattle.sd_value.specs.Order.{bytes_cmp, datum_cmp, value_cmp}
use Rattle.sd_value.specs.OrderLaws.{bytes_cmp-exact}
use Rattle.graph_spec.specs.DataGraph.{DataGraph, IsWellFormed, node}
use Rattle.graph_spec.specs.declared.Edge.{Edge}
use Rattle.list_lookup.specs.Picked.{in_place}
use Rattle.list_lookup.specs.PickedLaws.{filter-sound}
use Rattle.list_lookup.proofs.Placed.{names_tied}
use Rattle.edge_queries.specs.Places.{at_start_label}
use Rattle.order_spec.specs.Order.{same, ends}
use Rattle.graph_order.specs.Keys.{EndWithin}

-- ---- edges from a node by a label

both_eq : (p q : Ordering) → is_eq (ordering_then p q) ≡ (is_eq p && is_eq q)
both_eq Less q = refl
both_eq Equal q = refl
both_eq Greater q = refl

node_order : (m n : Name) → value_cmp (node m) (node n) ≡ bytes_cmp m n
unfolding value_cmp datum_cmp
node_order m n = refl

filter_same : {X : Type 0} (f g : X → Bool) → ((x : X) → f x ≡ g x) → (xs : List X) → filter f xs ≡ filter g xs
filter_same f g h [] = refl
filter_same f g h (x ∷ xs) = λ i. cond (h x i) (x ∷ filter_same f g h xs i) (filter_same f g h xs i)

pub ends_placed : (G : DataGraph) (l : Label) (n : Name)
    → map (λ (e : Edge). e.to) (in_place (at_start_label (node n) l) G.edges) ≡ ends G l (node n)
ends_placed G l n =
    ap (map (λ (e : Edge). e.to))
    (filter_same (λ (e : Edge). is_eq (at_start_label (node n) l e)) (λ (e : Edge). same e.from n && same e.label l)
    (λ e. both_eq (value_cmp (node e.from) (node n)) (bytes_cmp e.label l)
    ∙ ap (λ (o : Ordering). is_eq o && same e.label l) (node_order e.from n)) G.edges)

pub placed_ends : (G : DataGraph) → IsWellFormed G → (l : Label) (n : Name) → EndWithin G (in_place (at_start_label (node n) l) G.edges)
placed_ends G w l n e h = w.ends_are_data e (filter-sound (λ (d : Edge). is_eq (at_start_label (node n) l d)) G.edges e h).0

-- ---- a name among names

pub not_missed : (n : Name) (names : List Name) (i : ℕ)
    → IsPartitionPoint (λ m. bytes_cmp m n ≡ Less) (λ m. bytes_cmp m n ≡ Greater) names i → Contains names n → ⊥
not_missed n names i h (k, l, is) =
    let tied : bytes_cmp (get_or names k n) n ≡ Equal = names_tied (get_or names k n) n is in
    elim (cases_lt k i) [
      | inl below ↦ (let down : bytes_cmp (get_or names k n) n ≡ Less = h.0 k n (omega arith) below in cc)
      | inr above ↦ (let up : bytes_cmp (get_or names k n) n ≡ Greater = h.1 k n above l in cc)
    ]

-- the key that stands where the name does
pub found_at : {X : Type 0} (f : Name → X) (names : List Name) (keys : List X) (i : ℕ) (n : Name) (x : X) → keys ≡ map f names
    → i < length names → bytes_cmp (get_or names i n) n ≡ Equal → x ≡ get_or keys i x → x ≡ f n
found_at f names keys i n x made l tied is =
    is ∙ ap (λ ks. get_or ks i x) made ∙ get_or-map f names i n x l ∙ ap f (bytes_cmp-exact (get_or names i n) n tied)
