-- The keys of nodes, as they are compared.
use Rattle.std.specs.Prelude.{◌≡◌, List, [], ◌∷◌, map, Bool, true, false, Option, None, Contains}
use Rattle.std.specs.Option.{option_map}
use Rattle.std.specs.declared.cmp.Ordering.{Ordering}
use Rattle.std.specs.Ordering.{on, then_cmp}
use Rattle.sd_value.specs.Names.{Name, Label, Word}
use Rattle.sd_value.specs.Order.{bytes_cmp}
use Rattle.sd_value.specs.declared.Value.{Value}
use Rattle.graph_spec.specs.DataGraph.{DataGraph, IsEnd, node}
use Rattle.graph_spec.specs.declared.Edge.{Edge}
use Rattle.key_spec.specs.Keys.{folded_text, folded_cmp, turned_cmp, keyed_cmp}
use Rattle.order_spec.specs.Order.{least, reached}
use Rattle.sort_keys.specs.Keys.{key_of, key_cmp}
use Rattle.sort_keys.specs.declared.key.Key.{Key}
use Rattle.graph_order.specs.declared.members.Ranked.{Ranked}

-- the least of values, as a key
abbrev pub least_key : Bool → List Value → Option Key
least_key b vs = option_map (key_of b) (least (folded_cmp folded_text b) vs)

-- the key of a value by a word
abbrev pub key_by : Bool → DataGraph → Word → Value → Option Key
key_by b G w v = least_key b (reached G w v)

-- the keys of all nodes by a word. By the word without labels each value is its own key, and no
-- list of them is kept
abbrev pub AreKeys : Bool → DataGraph → Word → List (Option Key) → Type 0
AreKeys b G w keys = (w ≡ [] → ⊥) → keys ≡ map (λ n. key_by b G w (node n)) G.nodes

-- the word has one label more before the other's
abbrev pub IsLonger : Word → Word → Type 0
IsLonger w rest = (l : Label) × (w ≡ l ∷ rest)

-- the edges' ends are of the graph
abbrev pub EndWithin : DataGraph → List Edge → Type 0
EndWithin G es = (e : Edge) → Contains es e → IsEnd G e.to

-- ---- members in order

-- a member with its key, which counts upwards or downwards
abbrev pub ranked : Bool → Option Key → Name → Ranked
ranked false key n = record { up = key; down = None; node = n }
ranked true key n = record { up = None; down = key; node = n }

-- a node with its key by a word
abbrev pub ranked_by : Bool → Bool → DataGraph → Word → Name → Ranked
ranked_by descend b G w n = ranked descend (key_by b G w (node n)) n

-- by the keys that count downwards, ties by node
abbrev pub down_cmp : Ranked → Ranked → Ordering
down_cmp =
    then_cmp (on (λ r. r.down) (keyed_cmp (turned_cmp true key_cmp))) (on (λ r. r.node) bytes_cmp)

-- by key, ties by node
abbrev pub ranked_cmp : Ranked → Ranked → Ordering
ranked_cmp = then_cmp (on (λ r. r.up) (keyed_cmp (turned_cmp false key_cmp))) down_cmp
