-- Laws of the lists that are kept.
use Rattle.std.proofs.Common.{◌≡◌, ℕ, List, [], refl, ap, sym, ◌∙◌, subst, cond}
use Rattle.std.specs.Prelude.{◌↔◌, Contains, Bool, true, false, IsTrue, IfSome, Option, None, Some, slice_get}
use Rattle.std.specs.Global.{Vec}
use Rattle.std.specs.declared.cmp.Ordering.{Ordering}
use Rattle.std.specs.declared.cmp.Ordering.TheVariants.{Less, Equal, Greater}
use Rattle.std.specs.Ordering.{is_eq, nat_cmp}
use Rattle.std.specs.List.Sorted.{IsStrictlySortedBy}
use Rattle.std.specs.Map.{lookup}
use Rattle.std.specs.BTreeMap.{BTreeMap, get}
use Rattle.std.proofs.lemmas.Map.Lookups.{exact_pairs, exact_unsigned}
use Rattle.sd_value.specs.declared.Value.{Value}
use Rattle.sd_value.specs.Order.{value_cmp}
use Rattle.sd_value.specs.OrderLaws.{value_cmp-exact}
use Rattle.sd_value.specs.Ascending.{ListsExactly}
use Rattle.graph_spec.specs.DataGraph.{DataGraph}
use Rattle.automaton.specs.Table.{Table}
use Rattle.walks.specs.declared.direction.Direction.{Direction}
use Rattle.walks.specs.declared.direction.Direction.TheVariants.{Onward, Backward}
use Rattle.walks.specs.Directions.{JoinsBy, origin}
use Rattle.walks.specs.Joins.{Joins}
use Rattle.condition_tests.specs.declared.literal.Slot.{Slot}
use Rattle.condition_tests.specs.declared.literal.Literal.{Literal}
use Rattle.condition_tests.specs.declared.literal.Relation.TheVariants.{Edge, Walk, Compare}
use Rattle.condition_tests.specs.declared.literal.Atom.{Atom}
use Rattle.condition_tests.specs.declared.literal.Atom.TheVariants.{One, Two, Arc}
use Rattle.condition_tests.specs.declared.literal.Goal.{Goal}
use Rattle.condition_tests.specs.declared.literal.Goal.TheVariants.{Holds, Domain}
use Rattle.condition_tests.specs.Meaning.{Relates}
use Rattle.candidate_values.specs.Offers.{Lists}
use Rattle.candidate_values.specs.Kept.{IsWalkOf, key_cmp, IsReach, AreReaches}

-- ---- keys and goals

tie : (o : Ordering) → is_eq o ≡ true → o ≡ Equal
tie Less e = cc
tie Equal e = refl
tie Greater e = cc

same_key : (a b : ℕ × Value) → is_eq (key_cmp a b) ≡ true → a ≡ b
same_key a b e = exact_pairs nat_cmp value_cmp exact_unsigned value_cmp-exact a b (tie (key_cmp a b) e)

table_of : Option Goal → Option Table
table_of (Some (Holds l)) = of_atom l.atom
  where
    of_atom : Atom → Option Table
    of_atom (Two p (Walk t) q) = Some t
    of_atom (Two p (Edge name) q) = None
    of_atom (Two p (Compare op) q) = None
    of_atom (One p property) = None
    of_atom (Arc p k q) = None
table_of (Some (Domain k)) = None
table_of None = None

-- an atom of a goal that is a walk
pub walk_there : (goals : List Goal) (k : ℕ) (l : Literal) (p : Slot) (t : Table) (q : Slot) → slice_get goals k ≡ Some (Holds l) → l.atom ≡ Two p (Walk t) q → IsWalkOf goals k t
walk_there goals k l p t q there is = (l.negated, p, q, there ∙ ap (λ a. Some (Holds (record { negated = l.negated; atom = a }))) is)

pub same_walk : (goals : List Goal) (k : ℕ) (t t2 : Table) → IsWalkOf goals k t → IsWalkOf goals k t2 → t ≡ t2
unfolding table_of
same_walk goals k t t2 one other =
    let same : Some t ≡ Some t2 = sym (ap table_of one.3) ∙ ap table_of other.3 in cc

pub if_some : {X : Type 0} (o : Option X) (P Q : X → Type 0) → ((x : X) → P x → Q x) → IfSome o P → IfSome o Q
if_some None P Q f h = tt
if_some (Some x) P Q f h = f x h

some_same : {X : Type 0} (x y : X) → Some x ≡ Some y → x ≡ y
some_same x y e = cc

module _ (G : DataGraph) (goals : List Goal) where
  -- a list of what walks of the goal's automaton reach may be kept
  pub reach_of : (d : Direction) (key : ℕ × Value) (t : Table) (values : List Value) → IsWalkOf goals key.0 t → ListsExactly value_cmp (JoinsBy G t d key.1) values
      → IsReach G goals d key values
  reach_of d key t values walk lists t2 other = subst (λ x. ListsExactly value_cmp (JoinsBy G x d key.1) values) (same_walk goals key.0 t t2 walk other) lists

  pub none_kept : (d : Direction) (lists : BTreeMap (ℕ × Value) (Vec Value)) → lists.entries ≡ [] → AreReaches G goals d lists
  none_kept d lists empty key values found =
      let none : get key_cmp lists key ≡ None = ap (lookup (λ k. is_eq (key_cmp key k))) empty in cc

  pub one_more : (d : Direction) (old new : BTreeMap (ℕ × Value) (Vec Value)) (key : ℕ × Value) (values : Vec Value)
      → ((k : ℕ × Value) → get key_cmp new k ≡ cond (is_eq (key_cmp key k)) (Some values) (get key_cmp old k))
      → AreReaches G goals d old → IsReach G goals d key values.items → AreReaches G goals d new
  one_more d old new key values gets kept right k found is = by_test (is_eq (key_cmp key k)) refl (sym (gets k) ∙ is)
    where
      by_test : (b : Bool) → is_eq (key_cmp key k) ≡ b → cond b (Some values) (get key_cmp old k) ≡ Some found → IsReach G goals d k found.items
      by_test true tied e =
          let same : key ≡ k = same_key key k tied in
          let list : values ≡ found = some_same values found e in
          subst (λ (v : Vec Value). IsReach G goals d k v.items) list (subst (λ x. IsReach G goals d x values.items) same right)
      by_test false apart e = kept k found e

  -- what is kept answers whether a walk joins two values
  pub ends_tell : (t : Table) (u v : Value) (key : ℕ × Value) (values : List Value) (b : Bool) → IsWalkOf goals key.0 t → key.1 ≡ u → IsReach G goals Onward key values
      → (IsStrictlySortedBy value_cmp values → IsTrue b ↔ Contains values v) → IsTrue b ↔ Joins G t u v
  ends_tell t u v key values b walk at right says =
      let lists = subst (λ x. ListsExactly value_cmp (Joins G t x) values) at (right t walk) in
      let told = says lists.ascending in
      ((λ yes. lists.sound v (told.0 yes)), (λ j. told.1 (lists.complete v j)))

  pub starts_tell : (t : Table) (u v : Value) (key : ℕ × Value) (values : List Value) (b : Bool) → IsWalkOf goals key.0 t → key.1 ≡ v → IsReach G goals Backward key values
      → (IsStrictlySortedBy value_cmp values → IsTrue b ↔ Contains values u) → IsTrue b ↔ Joins G t u v
  starts_tell t u v key values b walk at right says =
      let lists = subst (λ x. ListsExactly value_cmp (JoinsBy G t Backward x) values) at (right t walk) in
      let told = says lists.ascending in
      ((λ yes. lists.sound u (told.0 yes)), (λ j. told.1 (lists.complete u j)))

-- the list of the one end answers for the other
pub other_told : (G : DataGraph) (t : Table) (d : Direction) (u v : Value) (values : List Value) (b : Bool) → ListsExactly value_cmp (JoinsBy G t d (origin d u v)) values
    → (IsStrictlySortedBy value_cmp values → IsTrue b ↔ Contains values (origin d v u)) → IsTrue b ↔ Joins G t u v
other_told G t Onward u v values b lists says = let told = says lists.ascending in ((λ yes. lists.sound v (told.0 yes)), (λ j. told.1 (lists.complete v j)))
other_told G t Backward u v values b lists says = let told = says lists.ascending in ((λ yes. lists.sound u (told.0 yes)), (λ j. told.1 (lists.complete u j)))

-- exactly the ends, or the starts, of a walk's relation are offered
pub listed_ends : (G : DataGraph) (version : ℕ) (t : Table) (u : Value) (values : List Value) → ListsExactly value_cmp (JoinsBy G t Onward u) values
    → Lists (Relates G version (Walk t) u) values true
listed_ends G version t u values lists = record { complete = lists.complete; sound = λ yes. lists.sound }

pub listed_starts : (G : DataGraph) (version : ℕ) (t : Table) (v : Value) (values : List Value) → ListsExactly value_cmp (JoinsBy G t Backward v) values
    → Lists (λ u. Relates G version (Walk t) u v) values true
listed_starts G version t v values lists = record { complete = lists.complete; sound = λ yes. lists.sound }
