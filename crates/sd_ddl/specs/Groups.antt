-- Members by node, as references to them.
use Rattle.std.specs.Prelude.{◌≡◌, Bool, false, List, [], ◌∷◌, map, filter, Contains, ⊤}
use Rattle.std.specs.Borrow.{Bor}
use Rattle.std.specs.List.{All}
use Rattle.std.specs.Ordering.{is_lt}
use Rattle.sd_value.specs.Order.{bytes_cmp}
use Rattle.graph_spec.specs.declared.Edge.{Edge}
use Rattle.graph_spec.specs.declared.Member.{Member}
use Rattle.sd_ddl.specs.Kinds.{Name, same_name}
use Rattle.sd_ddl.specs.Written.{collections_of}

abbrev pub start_is : Name → Edge → Bool
start_is n e = same_name e.from n

abbrev pub node_in : Bor Member → Name
node_in m = m.now.node

abbrev pub collection_in : Bor Member → Name
collection_in m = m.now.collection

abbrev pub node_is : Name → Bor Member → Bool
node_is n m = same_name (node_in m) n

-- no item has a name that is below that of an item before it
abbrev pub Rises : {X : Type 0} → (X → Name) → List X → Type 0
Rises name [] = ⊤
Rises name (x ∷ xs) = All (λ y. is_lt (bytes_cmp (name y) (name x)) ≡ false) xs × Rises name xs

-- the members by node, and each node's in the order in which they were
pub record IsByNode (members : List Member) (sorted : List (Bor Member)) : Type 0 where
  pub rises : Rises node_in sorted
  pub members_in : (m : Bor Member) → Contains sorted m → Contains members m.now
  pub members_of : (n : Name)
      → map collection_in (filter (node_is n) sorted) ≡ collections_of members n
