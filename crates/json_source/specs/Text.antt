-- What a JSON text states of a data graph, step by step.
use Rattle.std.specs.Prelude.{◌+◌, ◌&&◌, ℕ, ℤ, Bool, false, List, [], ◌∷◌, ◌++◌, codes, if◌then◌else◌, Option, Some, None, Result, Ok, Err, ⊤}
use Rattle.serde_json.specs.Data.{Data, null, boolean, number, string, array, object, Items, no_items, item, Members, no_members, member}
use Rattle.serde_json.specs.Find.{as_i64}
use Rattle.sd_value.specs.declared.Value.TheVariants.{Data as a_datum}
use Rattle.sd_value.specs.declared.Datum.TheVariants.{Int, Text, Node}
use Rattle.graph_spec.specs.DataGraph.{Name}
use Rattle.sd_graph.specs.Statement.{a_node, a_member, an_edge}
use Rattle.sd_graph.specs.Stating.{Step, says, fails, Ending, done, fault, too_many_nodes, too_many_edges, no_memory}
use Rattle.source_steps.specs.Links.{text_value}
use Rattle.json_source.specs.Names.{Pointer, item_place, member_place, item_name, member_name}
use Rattle.json_source.specs.Document.{value_of}
use Rattle.json_source.specs.Tables.{is_collection, holds_collections}
use Rattle.json_source.specs.Orders.{has_order, order_text}
use Rattle.json_source.specs.declared.rules.JsonRules.{JsonRules}
use Rattle.json_source.specs.declared.refusal.JsonRefusal.{JsonRefusal}
use Rattle.json_source.specs.declared.refusal.JsonRefusal.TheVariants.{NotJson, NotInteger, NotRecords, TooManyEdges}
use Rattle.json_source.specs.declared.refusal.JsonRefusal.TheVariants.{TooManyNodes, NoMemory}

abbrev pub JsonStep : Type 0
JsonStep = Step Pointer JsonRefusal

abbrev pub boolean_text : Bool → List ℕ
boolean_text b = if b then codes "true" else codes "false"

-- a number under a label
abbrev pub number_steps : Pointer → Name → Name → Option ℤ → List JsonStep
number_steps at node label (Some z) = says at (an_edge node label (a_datum (Int z))) ∷ []
number_steps at node label None = fails (NotInteger at) ∷ []

-- by the rules, the order of a list that is a key's own value
abbrev pub order_steps : JsonRules → Pointer → Name → Name → Data → List JsonStep
order_steps rules at node key d =
    if rules.orders && has_order d
    then says at (an_edge node (key ++ codes "_list") (text_value false (order_text d))) ∷ [] else []

module _ (rules : JsonRules) where
  -- what a value at a place states of the node that has it under a label. An object there is the node `child`
  abbrev mutual
    pub value_steps : Pointer → Name → Name → Name → Data → List JsonStep
    value_steps at node label child null = []
    value_steps at node label child (boolean b) = says at
        (an_edge node label (a_datum (Text (boolean_text b)))) ∷ []
    value_steps at node label child (number x) = number_steps at node label (as_i64 x)
    value_steps at node label child (string s) = says at
        (an_edge node label (text_value rules.links s)) ∷ []
    value_steps at node label child (array ds) = items_steps at node label child 0 ds
    value_steps at node label child (object ms) = says at (an_edge node label (a_datum (Node child)))
        ∷ members_steps at child ms

    -- the items of a list from one on: each under the same label
    pub items_steps : Pointer → Name → Name → Name → ℕ → Items → List JsonStep
    items_steps at node label child index no_items = []
    items_steps at node label child index (item d ds) =
        value_steps (item_place at index) node label (item_name child index) d
        ++ items_steps at node label child (index + 1) ds

    -- the members of a node's object, by ascending key: each under its key, and then its order
    pub members_steps : Pointer → Name → Members → List JsonStep
    members_steps at node no_members = []
    members_steps at node (member key d ms) = value_steps (member_place at key) node key
        (member_name node key) d
        ++ (order_steps rules (member_place at key) node key d ++ members_steps at node ms)

  -- a record: a node of the collection, and its members
  abbrev pub record_statements : Pointer → Name → Name → Members → List JsonStep
  record_statements at collection node ms =
      says at (a_node node) ∷ says at (a_member collection node) ∷ members_steps at node ms

  abbrev pub record_steps : Pointer → Name → Name → Data → List JsonStep
  record_steps at collection node (object ms) = record_statements at collection node ms
  record_steps at collection node d = fails (NotRecords at) ∷ []

  -- a list of records from one on. Its nodes are named after `name`
  abbrev pub records_steps : Pointer → Name → Name → ℕ → Items → List JsonStep
  records_steps at collection name index no_items = []
  records_steps at collection name index (item d ds) =
      record_steps (item_place at index) collection (item_name name index) d
      ++ records_steps at collection name (index + 1) ds

  abbrev pub collection_steps : Pointer → Name → Name → Data → List JsonStep
  collection_steps at collection name (array ds) = records_steps at collection name 0 ds
  collection_steps at collection name d = fails (NotRecords at) ∷ []

  -- the collections of an object, each under its key: a list of records
  abbrev pub collections_steps : Name → Members → List JsonStep
  collections_steps stem no_members = []
  collections_steps stem (member key d ms) =
      (if is_collection rules d
      then collection_steps (member_place [] key) key (member_name stem key) d else [])
      ++ collections_steps stem ms

  -- an object's collections, or the object as one record
  abbrev pub object_steps : Name → Members → List JsonStep
  object_steps stem ms =
      if holds_collections rules ms then collections_steps stem ms
      else record_statements [] stem (item_name stem 0) ms

  -- a list of records, or an object
  abbrev pub top_steps : Name → Data → List JsonStep
  top_steps stem (object ms) = object_steps stem ms
  top_steps stem d = collection_steps [] stem stem d

  abbrev pub steps_of : Name → Option Data → List JsonStep
  steps_of stem None = fails NotJson ∷ []
  steps_of stem (Some d) = top_steps stem d

-- the steps of a text
abbrev pub text_steps : JsonRules → Name → List ℕ → List JsonStep
text_steps rules stem bytes = steps_of rules stem (value_of rules bytes)

abbrev pub json_ending : Result ⊤ JsonRefusal → Ending Pointer JsonRefusal
json_ending (Ok u) = done
json_ending (Err (TooManyNodes p)) = too_many_nodes p
json_ending (Err (TooManyEdges p)) = too_many_edges p
json_ending (Err NoMemory) = no_memory
json_ending (Err e) = fault e
