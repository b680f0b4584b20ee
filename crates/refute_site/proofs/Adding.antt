-- Adding what is stated, one part after another.
use Rattle.std.proofs.Common.{◌≡◌, ℕ, suc, ◌+◌, ◌-◌, ◌<◌, ◌≤◌, List, [], ◌∷◌, ◌++◌, refl, sym, ap, ◌∙◌, subst, length, get_or, take, drop, append_assoc, append-nil, length-drop, drop-cons, arith}
use Rattle.std.specs.Prelude.{Result, Ok, Err, ⊤}
use Rattle.std.specs.BTreeSet.{insert_key}
use Rattle.std.specs.declared.cmp.Ordering.{Ordering}
use Rattle.std.specs.declared.cmp.Ordering.TheVariants.{Less, Equal, Greater}
use Rattle.std.specs.Ordering.{match_ordering}
use Rattle.std.proofs.lemmas.Grind.{flat_map-append}
use Rattle.std.proofs.lemmas.List.{take_more, take_all, take-append-drop}
use Rattle.std.proofs.lemmas.List.Sums.{fold-append}
use Rattle.std.specs.List.{flat_map}
use Rattle.sd_value.specs.declared.Datum.TheVariants.{Node}
use Rattle.sd_value.specs.declared.Value.{Value}
use Rattle.sd_value.specs.declared.Value.TheVariants.{Data, Page}
use Rattle.sd_value.specs.Order.{bytes_cmp}
use Rattle.graph_spec.specs.DataGraph.{DataGraph, Name}
use Rattle.graph_spec.specs.Orders.{edge_cmp, member_cmp}
use Rattle.graph_spec.specs.Statement.{Statement, a_node, a_member, an_edge, graph_with, with_end, with_name, with_all}
use Rattle.sd_value.specs.Names.{Label, Word}
use Rattle.counterexample_spec.specs.Frozen.{edge, along}
use Rattle.sd_graph.specs.Statement.{Building, Adds, IsWithin}
use Rattle.sd_graph.specs.declared.GraphRefusal.{GraphRefusal}
use Rattle.sd_graph.specs.declared.GraphRefusal.TheVariants.{TooManyNodes, TooManyEdges, NoMemory}
use Rattle.refute_site.specs.Adding.{building_all, AddsAll}

-- ---- a graph only grows

longer : {X : Type 0} (R : X → X → Ordering) (k : X) (xs : List X) → length xs ≤ length (insert_key R xs k)
longer R k [] = omega arith
longer R k (x ∷ xs) = by (longer R k xs) (R k x)
  where
    by : length xs ≤ length (insert_key R xs k) → (r : Ordering) → length (x ∷ xs) ≤ length (match_ordering r (k ∷ x ∷ xs) (x ∷ xs) (x ∷ insert_key R xs k))
    by rest Less = omega arith
    by rest Equal = omega arith
    by rest Greater = omega (arith, rest)

longer_end : (v : Value) (names : List Name) → length names ≤ length (with_end v names)
longer_end (Data (Node n)) names = longer bytes_cmp n names
longer_end (Data d) names = omega arith
longer_end (Page p) names = omega arith

-- no smaller
record Grows (G H : DataGraph) : Type 0 where
  nodes : length G.nodes ≤ length H.nodes
  edges : length G.edges ≤ length H.edges
  members : length G.members ≤ length H.members

grows_with : (s : Statement) (G : DataGraph) → Grows G (graph_with s G)
grows_with (a_node n) G = record { nodes = longer bytes_cmp n G.nodes; edges = omega arith; members = omega arith }
grows_with (a_member c n) G = record {
  nodes = longer bytes_cmp n G.nodes;
  edges = omega arith;
  members = longer member_cmp (record { collection = c; node = n }) G.members;
}
grows_with (an_edge n l v) G =
    let start = longer bytes_cmp n G.nodes in
    let end = longer_end v (with_name n G.nodes) in
    record {
      nodes = omega (arith, start, end);
      edges = longer edge_cmp (record { from = n; label = l; to = v }) G.edges;
      members = omega arith;
    }

grows : (all : List Statement) (G : DataGraph) → Grows G (with_all G all)
grows [] G = record { nodes = omega arith; edges = omega arith; members = omega arith }
grows (s ∷ all) G =
    let one = grows_with s G in
    let rest = grows all (graph_with s G) in
    record {
      nodes = omega (arith, one.nodes, rest.nodes);
      edges = omega (arith, one.edges, rest.edges);
      members = omega (arith, one.members, rest.members);
    }

-- ---- one part after another

both : (xs ys : List Statement) (G : DataGraph) → with_all G (xs ++ ys) ≡ with_all (with_all G xs) ys
both xs ys G = fold-append (λ H s. graph_with s H) G xs ys

-- what is within the limits was before
within_before : (xs ys : List Statement) (b : Building) → IsWithin (building_all (xs ++ ys) b) → IsWithin (building_all xs b)
within_before xs ys b h =
    let grown = grows ys (with_all b.graph xs) in
    let P : DataGraph → Type 0 = λ G. IsWithin (record { limits = b.limits; graph = G }) in
    let w : P (with_all (with_all b.graph xs) ys) = subst P (both xs ys b.graph) h in
    (omega (arith, grown.nodes, w.0), omega (arith, grown.edges, grown.members, w.1))

-- nothing
pub adds_nothing : (b : Building) → AddsAll [] b b (Ok tt)
adds_nothing b = refl

-- a statement alone
pub adds_one : (s : Statement) (b c : Building) (r : Result ⊤ GraphRefusal) → Adds s b c r → AddsAll (s ∷ []) b c r
adds_one s b c (Ok u) h = h.0
adds_one s b c (Err TooManyNodes) h = λ w. omega (arith, w.0, h.1)
adds_one s b c (Err TooManyEdges) h = λ w. omega (arith, w.1, h.2)
adds_one s b c (Err NoMemory) h = tt

-- a part that is refused
pub adds_stopped : (xs ys : List Statement) (b c : Building) (e : GraphRefusal) → AddsAll xs b c (Err e) → AddsAll (xs ++ ys) b c (Err e)
adds_stopped xs ys b c TooManyNodes h = λ w. h (within_before xs ys b w)
adds_stopped xs ys b c TooManyEdges h = λ w. h (within_before xs ys b w)
adds_stopped xs ys b c NoMemory h = tt

-- a part that is added, and the rest
pub adds_both : (xs ys : List Statement) (b c d : Building) (r : Result ⊤ GraphRefusal) → AddsAll xs b c (Ok tt) → AddsAll ys c d r → AddsAll (xs ++ ys) b d r
adds_both xs ys b c d r first rest = subst (λ (z : Building). AddsAll ys z d r → AddsAll (xs ++ ys) b d r) (sym first) (λ h. ended r h) rest
  where
    at_once : building_all ys (building_all xs b) ≡ building_all (xs ++ ys) b
    at_once = ap (λ (G : DataGraph). record { limits = b.limits; graph = G }) (sym (both xs ys b.graph))

    ended : (r : Result ⊤ GraphRefusal) → AddsAll ys (building_all xs b) d r → AddsAll (xs ++ ys) b d r
    ended (Ok u) h = h ∙ at_once
    ended (Err TooManyNodes) h = subst (λ (z : Building). ¬ IsWithin z) at_once h
    ended (Err TooManyEdges) h = subst (λ (z : Building). ¬ IsWithin z) at_once h
    ended (Err NoMemory) h = tt

-- ---- a loop over parts

-- one part more
pub part_added : (before part : List Statement) (b c d : Building) → c ≡ building_all before b → d ≡ building_all part c → d ≡ building_all (before ++ part) b
part_added before part b c d first here = adds_both before part b c d (Ok tt) first here

-- a part that is refused, with more behind it
pub part_stopped : (whole before part more : List Statement) (b c d : Building) (e : GraphRefusal) → whole ≡ before ++ (part ++ more) → c ≡ building_all before b → AddsAll part c d (Err e) → AddsAll whole b d (Err e)
part_stopped whole before part more b c d e split first here =
    subst (λ (l : List Statement). AddsAll l b d (Err e)) (append_assoc before part more ∙ sym split)
    (adds_stopped (before ++ part) more b d e (adds_both before part b c d (Err e) first here))

module _ {X : Type 0} (f : X → List Statement) (xs : List X) (i : ℕ) (x : X) (lt : i < length xs) (is : x ≡ get_or xs i x) (b c d : Building) (first : c ≡ building_all (flat_map f (take i xs)) b) where
  -- what is stated of one item more
  pub item_added : d ≡ building_all (f x) c → d ≡ building_all (flat_map f (take (i + 1) xs)) b
  item_added here =
      part_added (flat_map f (take i xs)) (f x) b c d first here
      ∙ ap (λ (l : List Statement). building_all l b)
      (ap (λ (l : List Statement). flat_map f (take i xs) ++ l) (sym (append-nil (f x))) ∙ sym (flat_map-append f (take i xs) (x ∷ [])) ∙ ap (flat_map f) (sym (take_more xs i x lt ∙ ap (λ (z : X). take i xs ++ z ∷ []) (sym is))))

  -- an item of which it is refused
  pub item_stopped : (e : GraphRefusal) → AddsAll (f x) c d (Err e) → AddsAll (flat_map f xs) b d (Err e)
  item_stopped e here = part_stopped (flat_map f xs) (flat_map f (take i xs)) (f x) (flat_map f (drop (suc i) xs)) b c d e split first here
    where
      split : flat_map f xs ≡ flat_map f (take i xs) ++ (f x ++ flat_map f (drop (suc i) xs))
      split =
          ap (flat_map f) (sym (take-append-drop i xs)) ∙ flat_map-append f (take i xs) (drop i xs)
          ∙ ap (λ (l : List X). flat_map f (take i xs) ++ flat_map f l) (drop-cons xs i x lt ∙ ap (λ (z : X). z ∷ drop (suc i) xs) (sym is))

-- all items
pub items_added : {X : Type 0} (f : X → List Statement) (xs : List X) (i : ℕ) (b c : Building) → length xs ≤ i → c ≡ building_all (flat_map f (take i xs)) b → c ≡ building_all (flat_map f xs) b
items_added {X} f xs i b c le h = h ∙ ap (λ (l : List X). building_all (flat_map f l) b) (take_all i xs le)

-- ---- the edges of a word

module _ (middle : ℕ → Value) (to : Value) where
  -- where the first edge ends, and what is stated behind it
  abbrev next : ℕ → Word → Value
  next j [] = to
  next j (m ∷ rest) = middle j

  abbrev further : ℕ → Word → List Statement
  further j [] = []
  further j (m ∷ rest) = along middle (suc j) (middle j) (m ∷ rest) to

  split_word : (j : ℕ) (u : Value) (l : Label) (rest : Word) → along middle j u (l ∷ rest) to ≡ edge u l (next j rest) ++ further j rest
  split_word j u l [] = sym (append-nil (edge u l to))
  split_word j u l (m ∷ rest) = refl

  next_is : (j : ℕ) (rest : Word) (end : Value) → (0 < length rest → end ≡ middle j) → (length rest ≤ 0 → end ≡ to) → end ≡ next j rest
  next_is j [] end inner last = last (omega arith)
  next_is j (m ∷ rest) end inner last = inner (omega arith)

  -- an edge that is refused
  pub edge_stopped : (word : Word) (j : ℕ) (l : Label) (u end : Value) (whole : List Statement) (b c d : Building) (e : GraphRefusal) → j < length word → l ≡ get_or word j l → (j + 1 < length word → end ≡ middle (j + 1)) → (length word ≤ j + 1 → end ≡ to)
      → building_all (along middle (j + 1) u (drop j word) to) c ≡ building_all whole b → AddsAll (edge u l end) c d (Err e) → AddsAll whole b d (Err e)
  edge_stopped word j l u end whole b c d e lt is inner last same here =
      moved e (subst (λ (s : List Statement). AddsAll s c d (Err e)) (sym parts) (adds_stopped (edge u l end) (further (j + 1) rest) c d e here))
    where
      rest : Word
      rest = drop (suc j) word

      counted : length rest ≡ length word - suc j
      counted = length-drop (suc j) word

      parts : along middle (j + 1) u (drop j word) to ≡ edge u l end ++ further (j + 1) rest
      parts =
          ap (λ (w : Word). along middle (j + 1) u w to) (drop-cons word j l lt ∙ ap (λ (z : Label). z ∷ rest) (sym is))
          ∙ split_word (j + 1) u l rest
          ∙ ap (λ (v : Value). edge u l v ++ further (j + 1) rest) (sym (next_is (j + 1) rest end (λ more. inner (omega (arith, more, counted, lt))) (λ none. last (omega (arith, none, counted, lt)))))

      moved : (e : GraphRefusal) → AddsAll (along middle (j + 1) u (drop j word) to) c d (Err e) → AddsAll whole b d (Err e)
      moved TooManyNodes h = subst (λ (z : Building). ¬ IsWithin z) same h
      moved TooManyEdges h = subst (λ (z : Building). ¬ IsWithin z) same h
      moved NoMemory h = tt
