-- Each JSON text has an answer over any graph: its faults are that it is no JSON, and those of a number or of a value that
-- is no record.
use Rattle.std.proofs.Common.{◌≡◌, ◌+◌, ℕ, ℤ, List, [], refl, sym, subst, Option, Some, None, Result, Ok, Err}
use Rattle.std.specs.Prelude.{◌&&◌, ⊤, if◌then◌else◌}
use Rattle.serde_json.specs.Data.{Data, null, boolean, number, string, array, object, Items, no_items, item, Members, no_members, member}
use Rattle.serde_json.specs.Find.{as_i64}
use Rattle.graph_spec.specs.DataGraph.{Name}
use Rattle.sd_graph.specs.Statement.{Building}
use Rattle.sd_graph.specs.Stating.{Ending, done, fault, too_many_nodes, too_many_edges, no_memory, Ends}
use Rattle.json_source.specs.Names.{Pointer, item_place, member_place, item_name, member_name}
use Rattle.json_source.specs.Document.{value_of}
use Rattle.json_source.specs.Tables.{is_collection, holds_collections}
use Rattle.json_source.specs.Orders.{has_order}
use Rattle.json_source.specs.declared.rules.JsonRules.{JsonRules}
use Rattle.json_source.specs.declared.refusal.JsonRefusal.{JsonRefusal}
use Rattle.json_source.specs.declared.refusal.JsonRefusal.TheVariants.{TooManyEdges, TooManyNodes, NoMemory}
use Rattle.json_source.specs.Text.{JsonStep, number_steps, order_steps, value_steps, items_steps, members_steps, record_steps, records_steps}
use Rattle.json_source.specs.Text.{collection_steps, collections_steps, object_steps, top_steps, steps_of, text_steps, json_ending}
use Rattle.json_source.specs.Reads.{Reads}
use Rattle.source_laws.proofs.Steps.{FailAs, fail_append, fail_choice, IsToldAs, ended}

-- the answer of this fault is the fault
abbrev IsItself : JsonRefusal → Type 0
IsItself f = json_ending (Err f) ≡ fault f

number_fails : (at : Pointer) (node label : Name) (n : Option ℤ) → FailAs IsItself (number_steps at node label n)
number_fails at node label (Some z) = tt
number_fails at node label None = (refl, tt)

order_fails : (rules : JsonRules) (at : Pointer) (node key : Name) (d : Data) → FailAs IsItself (order_steps rules at node key d)
order_fails rules at node key d = fail_choice IsItself (rules.orders && has_order d) _ _ tt tt

module _ (rules : JsonRules) where
  mutual
    value_fails : (at : Pointer) (node label child : Name) (d : Data) → FailAs IsItself (value_steps rules at node label child d)
    value_fails at node label child null = tt
    value_fails at node label child (boolean b) = tt
    value_fails at node label child (number x) = number_fails at node label (as_i64 x)
    value_fails at node label child (string s) = tt
    value_fails at node label child (array ds) = items_fail at node label child 0 ds
    value_fails at node label child (object ms) = members_fail at child ms

    items_fail : (at : Pointer) (node label child : Name) (index : ℕ) (ds : Items) → FailAs IsItself (items_steps rules at node label child index ds)
    items_fail at node label child index no_items = tt
    items_fail at node label child index (item d ds) =
        fail_append IsItself (value_steps rules (item_place at index) node label (item_name child index) d) _
        (value_fails (item_place at index) node label (item_name child index) d) (items_fail at node label child (index + 1) ds)

    members_fail : (at : Pointer) (node : Name) (ms : Members) → FailAs IsItself (members_steps rules at node ms)
    members_fail at node no_members = tt
    members_fail at node (member key d ms) =
        fail_append IsItself (value_steps rules (member_place at key) node key (member_name node key) d) _
        (value_fails (member_place at key) node key (member_name node key) d)
        (fail_append IsItself (order_steps rules (member_place at key) node key d) _ (order_fails rules (member_place at key) node key d) (members_fail at node ms))

  record_fails : (at : Pointer) (collection node : Name) (d : Data) → FailAs IsItself (record_steps rules at collection node d)
  record_fails at collection node null = (refl, tt)
  record_fails at collection node (boolean b) = (refl, tt)
  record_fails at collection node (number x) = (refl, tt)
  record_fails at collection node (string s) = (refl, tt)
  record_fails at collection node (array ds) = (refl, tt)
  record_fails at collection node (object ms) = members_fail at node ms

  records_fail : (at : Pointer) (collection name : Name) (index : ℕ) (ds : Items) → FailAs IsItself (records_steps rules at collection name index ds)
  records_fail at collection name index no_items = tt
  records_fail at collection name index (item d ds) =
      fail_append IsItself (record_steps rules (item_place at index) collection (item_name name index) d) _
      (record_fails (item_place at index) collection (item_name name index) d) (records_fail at collection name (index + 1) ds)

  collection_fails : (at : Pointer) (collection name : Name) (d : Data) → FailAs IsItself (collection_steps rules at collection name d)
  collection_fails at collection name null = (refl, tt)
  collection_fails at collection name (boolean b) = (refl, tt)
  collection_fails at collection name (number x) = (refl, tt)
  collection_fails at collection name (string s) = (refl, tt)
  collection_fails at collection name (array ds) = records_fail at collection name 0 ds
  collection_fails at collection name (object ms) = (refl, tt)

  -- the steps of one collection, where the value is one
  abbrev if_collection : Name → Name → Data → List JsonStep
  if_collection stem key d = if is_collection rules d then collection_steps rules (member_place [] key) key (member_name stem key) d else []

  collections_fail : (stem : Name) (ms : Members) → FailAs IsItself (collections_steps rules stem ms)
  collections_fail stem no_members = tt
  collections_fail stem (member key d ms) =
      fail_append IsItself (if_collection stem key d) (collections_steps rules stem ms)
      (fail_choice IsItself (is_collection rules d) (collection_steps rules (member_place [] key) key (member_name stem key) d) [] (collection_fails (member_place [] key) key (member_name stem key) d) tt)
      (collections_fail stem ms)

  object_fails : (stem : Name) (ms : Members) → FailAs IsItself (object_steps rules stem ms)
  object_fails stem ms =
      fail_choice IsItself (holds_collections rules ms) _ _ (collections_fail stem ms) (members_fail [] (item_name stem 0) ms)

  top_fails : (stem : Name) (d : Data) → FailAs IsItself (top_steps rules stem d)
  top_fails stem null = (refl, tt)
  top_fails stem (boolean b) = (refl, tt)
  top_fails stem (number x) = (refl, tt)
  top_fails stem (string s) = (refl, tt)
  top_fails stem (array ds) = records_fail [] stem stem 0 ds
  top_fails stem (object ms) = object_fails stem ms

  text_fails : (stem : Name) (value : Option Data) → FailAs IsItself (steps_of rules stem value)
  text_fails stem None = (refl, tt)
  text_fails stem (Some d) = top_fails stem d

module _ (rules : JsonRules) (stem : Name) (bytes : List ℕ) (b : Building) where
  abbrev HasAnswer : Type 0
  HasAnswer = (c : Building) × (r : Result ⊤ JsonRefusal) × (r ≡ Err NoMemory → ⊥) × Reads rules stem bytes b c r

  fault_told : (f : JsonRefusal) → IsItself f → ◌≡◌ {A = Result ⊤ JsonRefusal} (Err f) (Err NoMemory) → ⊥
  fault_told f is e = let other : json_ending (Err f) ≡ json_ending (Err NoMemory) = λ i. json_ending (e i) in cc

  of_ending : (c : Building) (e : Ending Pointer JsonRefusal) → IsToldAs IsItself e → Ends b (text_steps rules stem bytes) c e → HasAnswer
  of_ending c done told h = (c, Ok tt, (λ none. cc), h)
  of_ending c (fault f) told h = (c, Err f, fault_told f told, subst (Ends b (text_steps rules stem bytes) c) (sym told) h)
  of_ending c (too_many_nodes k) told h = (c, Err (TooManyNodes k), (λ none. cc), h)
  of_ending c (too_many_edges k) told h = (c, Err (TooManyEdges k), (λ none. cc), h)
  of_ending c no_memory told h = absurd told

  pub json_answer : HasAnswer
  json_answer =
      let e = ended IsItself b (text_steps rules stem bytes) (text_fails rules stem (value_of rules bytes)) in
      of_ending e.0 e.1 e.2 e.3
