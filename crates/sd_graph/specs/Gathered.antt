-- A set that is put in order late, as the ascending list of its elements.
use Rattle.std.specs.Prelude.{◌≡◌, List, [], fold}
use Rattle.std.specs.declared.cmp.Ordering.{Ordering}
use Rattle.std.specs.BTreeSet.{insert_key}
use Rattle.std.specs.List.Sorted.{IsStrictlySortedBy}
use Rattle.sd_graph.specs.declared.gathered.Gathered.{Gathered}

-- the keys, with each of these inserted
abbrev pub insert_all : {X : Type 0} → (X → X → Ordering) → List X → List X → List X
insert_all R keys xs = fold (insert_key R) keys xs

-- the elements of a list in their order, each once
abbrev pub in_order : {X : Type 0} → (X → X → Ordering) → List X → List X
in_order R xs = insert_all R [] xs

-- what is in order, with what came since
abbrev pub elements : {X : Type 0} → (X → X → Ordering) → Gathered X → List X
elements R set = insert_all R set.ordered.keys set.fresh.items

-- what a tree keeps to
abbrev pub IsInOrder : {X : Type 0} → (X → X → Ordering) → Gathered X → Type 0
IsInOrder R set = IsStrictlySortedBy R set.ordered.keys

-- all that came is in order
abbrev pub IsSettled : {X : Type 0} → Gathered X → Type 0
IsSettled set = set.fresh.items ≡ []
