-- Items by what they belong to.
use Rattle.std.specs.Prelude.{◌≡◌, ◌⊎◌, ◌↔◌, List, [], Option, Some, None, Contains}
use Rattle.std.specs.declared.cmp.Ordering.{Ordering}
use Rattle.std.specs.BTreeMap.{get}
use Rattle.std.specs.BTreeSet.{BTreeSet}
use Rattle.sd_value.specs.Names.{Name}
use Rattle.sd_value.specs.declared.Datum.TheVariants.{Node}
use Rattle.sd_value.specs.declared.Value.{Value}
use Rattle.sd_value.specs.declared.Value.TheVariants.{Data, Page}
use Rattle.sd_value.specs.Order.{bytes_cmp, value_cmp}
use Rattle.graph_spec.specs.declared.Edge.{Edge}
use Rattle.live_layers.specs.declared.groups.Groups.{Groups}
use Rattle.live_layers.specs.declared.orders.Orders.{Orders}

-- the items of a set that may be missing
abbrev pub elements : {E : Type 0} → Option (BTreeSet E) → List E
elements (Some items) = items.keys
elements None = []

-- the name of a value that is a node
abbrev pub node_name : Value → Option Name
node_name (Data (Node n)) = Some n
node_name (Data d) = None
node_name (Page p) = None

-- the items of a group
abbrev pub group : {K E : Type 0} → (K → K → Ordering) → Groups K E → K → List E
group R groups k = elements (get R groups.of k)

-- each group has exactly those of the items which belong to it
abbrev pub IsGrouped : {K E : Type 0} → (K → K → Ordering) → (E → K) → List E → Groups K E → Type 0
IsGrouped {K} {E} R key items groups =
    (k : K) (e : E) → Contains (group R groups k) e ↔ (Contains items e × (key e ≡ k))

-- the same, but whether one item is in its group is not known
abbrev pub IsNear : {K E : Type 0} → (K → K → Ordering) → (E → K) → E → List E → Groups K E → Type 0
IsNear {K} {E} R key one items groups =
    (k : K) (e : E) → (Contains items e → key e ≡ k → Contains (group R groups k) e)
    × (Contains (group R groups k) e → (Contains items e ⊎ (e ≡ one)) × (key e ≡ k))

-- the edges by start, by end and by label
pub record AreOrders (edges : List Edge) (orders : Orders) : Type 0 where
  pub by_start : IsGrouped bytes_cmp (λ (e : Edge). e.from) edges orders.by_start
  pub by_end : IsGrouped value_cmp (λ (e : Edge). e.to) edges orders.by_end
  pub by_label : IsGrouped bytes_cmp (λ (e : Edge). e.label) edges orders.by_label

-- the same, but whether one edge is in any of them is not known
pub record AreNear (one : Edge) (edges : List Edge) (orders : Orders) : Type 0 where
  pub by_start : IsNear bytes_cmp (λ (e : Edge). e.from) one edges orders.by_start
  pub by_end : IsNear value_cmp (λ (e : Edge). e.to) one edges orders.by_end
  pub by_label : IsNear bytes_cmp (λ (e : Edge). e.label) one edges orders.by_label
