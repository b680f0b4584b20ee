-- What a search over pairs of a value and a position has visited, and what is still to be followed.
use Rattle.std.specs.Prelude.{◌≡◌, ℕ, zero, suc, ◌++◌, ◌+◌, ◌/◌, ◌%◌, ◌≤◌, ◌<◌, Bool, true, false, ◌&&◌, ◌==◌, nat_lt}
use Rattle.std.specs.Prelude.{List, [], ◌∷◌, length, Option, Some, None, ◌⊎◌, ◌↔◌, IsSome, Contains, if◌then◌else◌}
use Rattle.std.specs.Prelude.{slice_index}
use Rattle.std.specs.Int.{bit_at}
use Rattle.std.specs.BTreeMap.{BTreeMap, get}
use Rattle.sd_value.specs.declared.Value.{Value}
use Rattle.sd_value.specs.declared.Value.TheVariants.{Data}
use Rattle.sd_value.specs.declared.Datum.TheVariants.{Node}
use Rattle.sd_value.specs.Order.{value_cmp}
use Rattle.graph_spec.specs.declared.Edge.{Edge}
use Rattle.graph_spec.specs.declared.Step.{Step}
use Rattle.graph_spec.specs.DataGraph.{DataGraph, Name}
use Rattle.automaton.specs.PositionSet.{Has}
use Rattle.automaton.specs.Positions.{ReadsIn}
use Rattle.automaton.specs.Table.{Table}
use Rattle.walks.specs.declared.direction.Direction.{Direction}
use Rattle.walks.specs.declared.direction.Direction.TheVariants.{Onward, Backward}
use Rattle.walks.specs.declared.search.Task.{Task}
use Rattle.walks.specs.declared.search.Exploration.{Exploration}
use Rattle.walks.specs.Directions.{Leaves, Opens, Closes, IsNext}

-- the pair was visited
abbrev pub Visits : BTreeMap Value (List ℕ) → Value → ℕ → Type 0
Visits seen v p = (s : List ℕ) × (get value_cmp seen v ≡ Some s) × Has s p

-- the pair waits to be followed
abbrev pub Waits : List Task → Value → ℕ → Type 0
Waits [] v p = ⊥
Waits (x ∷ xs) v p = ((x.value ≡ v) × Has x.positions p) ⊎ Waits xs v p

-- a walk from u comes to the value on this way, and the position has read its last label
pub data Reached (G : DataGraph) (t : Table) (d : Direction) (u : Value) : Value → ℕ → Type 0 where
  begins : {v : Value} {p : ℕ} (l : Name) → Leaves G d u l v → Opens t d p → ReadsIn t.letters p l
      → Reached G t d u v p
  goes_on : {v m : Value} {p q : ℕ} (l : Name) → Reached G t d u v p → Leaves G d v l m
      → IsNext t d p q → ReadsIn t.letters q l → Reached G t d u m q

-- tests of the same facts
abbrev pub has_test : List ℕ → ℕ → Bool
has_test s p = nat_lt p 256 && (bit_at (slice_index s (p / 64)) (p % 64) == 1)

abbrev pub has_some : Option (List ℕ) → ℕ → Bool
has_some None p = false
has_some (Some s) p = has_test s p

-- each pair of a value that an edge leads to and a position below n, some pairs more than once
unfoldable pub below : ℕ → List ℕ
below zero = []
below (suc n) = n ∷ below n

abbrev pub pairs_at : Value → List ℕ → List (Value × ℕ)
pairs_at v [] = []
pairs_at v (p ∷ ps) = (v, p) ∷ pairs_at v ps

abbrev pub led_to : Direction → Edge → Value
led_to Onward e = e.to
led_to Backward e = Data (Node e.from)

abbrev pub pairs_of : Direction → ℕ → List Edge → List (Value × ℕ)
pairs_of d n [] = []
pairs_of d n (e ∷ edges) = pairs_at (led_to d e) (below n) ++ pairs_of d n edges

abbrev pub all_pairs : DataGraph → Table → Direction → List (Value × ℕ)
all_pairs G t d = pairs_of d (length t.letters) G.edges

-- how many of the elements fail the test
abbrev pub failures : {X : Type 0} → (X → Bool) → List X → ℕ
failures test [] = 0
failures test (x ∷ xs) = (if test x then 0 else 1) + failures test xs

-- how many of the pairs were not visited yet
abbrev pub spare : List (Value × ℕ) → BTreeMap Value (List ℕ) → ℕ
spare pairs seen = failures (λ x. has_some (get value_cmp seen x.0) x.1) pairs

-- the search has visited the new pairs too: those that it had not visited before wait
pub record Explores (New : Value → ℕ → Type 0) (seen seen2 : BTreeMap Value (List ℕ))
    (tasks tasks2 : List Task) : Type 0 where
  pub visited : (v : Value) (p : ℕ) → Visits seen2 v p ↔ (Visits seen v p ⊎ New v p)
  pub waits : (v : Value) (p : ℕ) → Waits tasks2 v p → Waits tasks v p ⊎ New v p
  pub kept : (v : Value) (p : ℕ) → Waits tasks v p → Waits tasks2 v p
  pub fresh : (v : Value) (p : ℕ) → New v p → Visits seen v p ⊎ Waits tasks2 v p
  pub keys : (v : Value) → IsSome (get value_cmp seen v) → IsSome (get value_cmp seen2 v)
  pub room : (pairs : List (Value × ℕ)) → ((v : Value) (p : ℕ) → New v p → Contains pairs (v, p))
      → spare pairs seen2 + length tasks2 ≤ spare pairs seen + length tasks

-- the positions at one value
abbrev pub At : Value → List ℕ → Value → ℕ → Type 0
At value positions v p = (v ≡ value) × Has positions p

-- the pairs that the steps lead to from the positions that may come next
abbrev pub Ahead : Table → List ℕ → List Step → Value → ℕ → Type 0
Ahead t reach steps v q =
    (l : Name) × Contains steps (record {
      label = l;
      end = v;
    }) × Has reach q × ReadsIn t.letters q l

-- the positions are sorted by what was visited at the value: the fresh ones, and all together
pub record Sorts (seen : BTreeMap Value (List ℕ)) (value : Value)
    (positions fresh all : List ℕ) : Type 0 where
  pub only : (p : ℕ) → Has fresh p → Has positions p × ¬ (Visits seen value p)
  pub cases : (p : ℕ) → Has positions p → Visits seen value p ⊎ Has fresh p
  pub both : (p : ℕ) → Has all p ↔ (Visits seen value p ⊎ Has positions p)

-- the pairs that an edge from the value leads to first
abbrev pub LeadsFirst : DataGraph → Table → Direction → Value → Value → ℕ → Type 0
LeadsFirst G t d u v p = (l : Name) × Leaves G d u l v × Opens t d p × ReadsIn t.letters p l

-- the pairs that the task's pairs lead to
abbrev pub Leads : DataGraph → Table → Direction → Task → Value → ℕ → Type 0
Leads G t d task v q =
    (l : Name) × Leaves G d task.value l v × ((p : ℕ) × Has task.positions p × IsNext t d p q)
    × ReadsIn t.letters q l

-- each pair that the pair leads to was visited
abbrev pub IsFollowed : DataGraph → Table → Direction → BTreeMap Value (List ℕ) → Value → ℕ → Type 0
IsFollowed G t d seen v p =
    (l : Name) (m : Value) (q : ℕ) → Leaves G d v l m → IsNext t d p q → ReadsIn t.letters q l
    → Visits seen m q

-- the search has visited what its first steps lead to, and what each visited pair leads to, unless that pair still waits
pub record Searches (G : DataGraph) (t : Table) (d : Direction) (u : Value)
    (seen : BTreeMap Value (List ℕ)) (tasks : List Task) : Type 0 where
  pub sound : (v : Value) (p : ℕ) → Visits seen v p → Reached G t d u v p
  pub waiting : (v : Value) (p : ℕ) → Waits tasks v p → Visits seen v p
  pub begun : (l : Name) (v : Value) (p : ℕ) → Leaves G d u l v → Opens t d p
      → ReadsIn t.letters p l → Visits seen v p
  pub followed : (v : Value) (p : ℕ) → Visits seen v p → Waits tasks v p ⊎ IsFollowed G t d seen v p
  pub start : IsSome (get value_cmp seen u)

-- nothing is left to be followed
abbrev pub IsDone : Exploration → Type 0
IsDone x = x.tasks.items ≡ []

abbrev pub IsUnderWay : DataGraph → Table → Direction → Value → Exploration → Type 0
IsUnderWay G t d u x = Searches G t d u x.seen x.tasks.items

-- at most how many tasks are still to be followed
abbrev pub left : DataGraph → Table → Direction → Exploration → ℕ
left G t d x = spare (all_pairs G t d) x.seen + length x.tasks.items

-- the search goes on from where it was, with less left unless nothing was
pub record Advances (G : DataGraph) (t : Table) (d : Direction) (x y : Exploration) : Type 0 where
  pub goes_on : (u : Value) → IsUnderWay G t d u x → IsUnderWay G t d u y
  pub less : (IsDone x → ⊥) → left G t d y < left G t d x

-- nothing was visited, and the value is there
pub record IsStart (u : Value) (seen : BTreeMap Value (List ℕ)) : Type 0 where
  pub none : (v : Value) (p : ℕ) → Visits seen v p → ⊥
  pub start : IsSome (get value_cmp seen u)

-- a walk from u may end at the value on this way, where it may read these positions last
abbrev pub IsEnd : Table → Direction → Value → Value → List ℕ → Type 0
IsEnd t d u v s = ((p : ℕ) × Has s p × Closes t d p) ⊎ ((t.has_empty ≡ true) × (u ≡ v))

-- the value is among those visited, and a walk may end at it
abbrev pub HasEnd : Table → Direction → Value → BTreeMap Value (List ℕ) → Value → Type 0
HasEnd t d u seen v = (s : List ℕ) × (get value_cmp seen v ≡ Some s) × IsEnd t d u v s

-- the same of a list of entries
abbrev pub HasEndIn : Table → Direction → Value → List (Value × List ℕ) → Value → Type 0
HasEndIn t d u entries v = (s : List ℕ) × Contains entries (v, s) × IsEnd t d u v s
