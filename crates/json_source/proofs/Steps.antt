-- What the answers of this crate share.
use Rattle.std.specs.Prelude.{◌≡◌, ◌⊎◌, ◌<◌, ◌+◌, ◌==◌, ℕ, ◌∷◌, ◌++◌, [], List, length, true, false, if◌then◌else◌, Option, Some, None, Result, Ok, Err, ⊤, IsErr, string_bytes, String as Text}
use Rattle.std.proofs.Common.{refl, sym, ◌∙◌, ap, subst, inl, inr, rules, drop, get_or, arith}
use Rattle.std.proofs.lemmas.Bool.{eqb-true}
use Rattle.std.specs.declared.alloc.Global.{Global}
use Rattle.std.proofs.lemmas.List.{drop_more}
use Rattle.serde_json.specs.Data.{string, Data, object, array, Members, Items}
use Rattle.serde_json.specs.Find.{as_object, as_array}
use Rattle.serde_json.specs.View.{view, items_view, members_view}
use Rattle.serde_json.specs.declared.value.Value.{Value as Json, String as JsonString, the_lemmas}
use Rattle.serde_json.proofs.Views.{Entry}
use Rattle.graph_spec.specs.DataGraph.{Name}
use Rattle.sd_graph.specs.Statement.{Statement, Building, Adds}
use Rattle.sd_graph.specs.Stating.{says, fails, fault, Ends, Leads}
use Rattle.sd_graph.specs.StatingLaws.{ending_at, Ends-one, IsCut, Continues, Continues-stop, Continues-step}
use Rattle.sd_graph.specs.declared.GraphRefusal.{GraphRefusal}
use Rattle.sd_graph.specs.declared.GraphRefusal.TheVariants as refusal
use Rattle.json_source.specs.Names.{Pointer, item_place, item_name, member_place, member_name}
use Rattle.json_source.specs.Document.{value_of}
use Rattle.json_source.specs.Tables.{is_table, are_objects, is_collection}
use Rattle.json_source.specs.declared.rules.JsonRules.{JsonRules}
use Rattle.json_source.specs.Text.{json_ending, JsonStep, record_steps, records_steps, collection_steps, collections_steps, text_steps, steps_of, order_steps, value_steps, items_steps, members_steps}
use Rattle.json_source.specs.declared.refusal.JsonRefusal.{JsonRefusal}
use Rattle.json_source.specs.declared.refusal.JsonRefusal.TheVariants.{NotJson, NotInteger, NotRecords, TooManyEdges, TooManyNodes, NoMemory}

-- an addition that was refused changed nothing
unchanged : (s : Statement) (b c : Building) (r : Result ⊤ GraphRefusal) → Adds s b c r → IsErr r → c ≡ b
unchanged s b c (Ok u) h e = cc
unchanged s b c (Err refusal.TooManyNodes) h e = h.0
unchanged s b c (Err refusal.TooManyEdges) h e = h.0
unchanged s b c (Err refusal.NoMemory) h e = h

pub stated : (at : Pointer) (s : Statement) (b c : Building) (r : Result ⊤ GraphRefusal) (x : Result ⊤ JsonRefusal)
    → (json_ending x ≡ ending_at at r) ⊎ ((x ≡ Err NoMemory) × IsErr r) → Adds s b c r → Ends b (says at s ∷ []) c (json_ending x)
stated at s b c r x (inl is) adds = subst (λ e. Ends b (says at s ∷ []) c e) (sym is) (Ends-one JsonRefusal at s b c r adds)
stated at s b c r x (inr none) adds = rw none.0 ([], says at s ∷ [], refl, sym (unchanged s b c r adds none.1))

-- an error ends the steps
pub cuts : (e : JsonRefusal) → IsCut (json_ending (Err e))
cuts NotJson = tt
cuts (NotInteger p) = tt
cuts (NotRecords p) = tt
cuts (TooManyEdges p) = tt
cuts (TooManyNodes p) = tt
cuts NoMemory = tt

pub stop : (b c d : Building) (steps front rest : List JsonStep) (e : JsonRefusal) → Continues b steps c (front ++ rest) → Ends c front d (json_ending (Err e)) → Ends b steps d (json_ending (Err e))
stop b c d steps front rest e h ends = Continues-stop b c d steps front rest (json_ending (Err e)) h (cuts e) ends

-- a fault, before anything is stated
pub fault_first : (b : Building) (steps : List JsonStep) (e : JsonRefusal) → steps ≡ fails e ∷ [] → Ends b steps b (fault e)
fault_first b steps e is = ([], [], is, refl)

pub view_string : (s : Text Global) → view (JsonString s) ≡ string (string_bytes s)
view_string s = search (rules, the_lemmas)

next_items : (rules : JsonRules) (at : Pointer) (node label child : Name) (i : ℕ) (items : List Json) (x : Json) (place name : List ℕ)
    → i < length items → x ≡ get_or items i x → place ≡ item_place at i → name ≡ item_name child i
    → items_steps rules at node label child i (items_view (drop i items)) ≡ value_steps rules place node label name (view x) ++ items_steps rules at node label child (i + 1) (items_view (drop (i + 1) items))
next_items rules at node label child i items x place name lt is p n =
    let split : drop i items ≡ x ∷ drop (i + 1) items = drop_more items i x lt ∙ ap (λ y. y ∷ drop (i + 1) items) (sym is) in
    ap (λ xs. items_steps rules at node label child i (items_view xs)) split
    ∙ ap (λ q. value_steps rules q node label (item_name child i) (view x) ++ items_steps rules at node label child (i + 1) (items_view (drop (i + 1) items))) (sym p)
    ∙ ap (λ q. value_steps rules place node label q (view x) ++ items_steps rules at node label child (i + 1) (items_view (drop (i + 1) items))) (sym n)

pub items_step : (rules : JsonRules) (b c d : Building) (steps : List JsonStep) (at : Pointer) (node label child : Name) (i : ℕ) (items : List Json) (x : Json) (place name : List ℕ)
    → i < length items → x ≡ get_or items i x → place ≡ item_place at i → name ≡ item_name child i
    → Continues b steps c (items_steps rules at node label child i (items_view (drop i items)))
    → Leads c (value_steps rules place node label name (view x)) d
    → Continues b steps d (items_steps rules at node label child (i + 1) (items_view (drop (i + 1) items)))
items_step rules b c d steps at node label child i items x place name lt is p n whole leads =
    Continues-step b c d steps (value_steps rules place node label name (view x)) (items_steps rules at node label child (i + 1) (items_view (drop (i + 1) items)))
    (subst (λ rest. Continues b steps c rest) (next_items rules at node label child i items x place name lt is p n) whole) leads

pub items_stop : (rules : JsonRules) (b c d : Building) (steps : List JsonStep) (at : Pointer) (node label child : Name) (i : ℕ) (items : List Json) (x : Json) (place name : List ℕ) (e : JsonRefusal)
    → i < length items → x ≡ get_or items i x → place ≡ item_place at i → name ≡ item_name child i
    → Continues b steps c (items_steps rules at node label child i (items_view (drop i items)))
    → Ends c (value_steps rules place node label name (view x)) d (json_ending (Err e))
    → Ends b steps d (json_ending (Err e))
items_stop rules b c d steps at node label child i items x place name e lt is p n whole ends =
    stop b c d steps (value_steps rules place node label name (view x)) (items_steps rules at node label child (i + 1) (items_view (drop (i + 1) items))) e
    (subst (λ rest. Continues b steps c rest) (next_items rules at node label child i items x place name lt is p n) whole) ends

next_members : (rules : JsonRules) (at : Pointer) (node : Name) (entries left : List Entry) (key : Text Global) (v : Json) (label place name : List ℕ)
    → entries ≡ (key, v) ∷ left → label ≡ string_bytes key → place ≡ member_place at label → name ≡ member_name node label
    → members_steps rules at node (members_view entries) ≡ value_steps rules place node label name (view v) ++ (order_steps rules place node label (view v) ++ members_steps rules at node (members_view left))
next_members rules at node entries left key v label place name split l p n =
    ap (λ es. members_steps rules at node (members_view es)) split
    ∙ ap (λ q. value_steps rules (member_place at q) node q (member_name node q) (view v) ++ (order_steps rules (member_place at q) node q (view v) ++ members_steps rules at node (members_view left))) (sym l)
    ∙ ap (λ q. value_steps rules q node label (member_name node label) (view v) ++ (order_steps rules q node label (view v) ++ members_steps rules at node (members_view left))) (sym p)
    ∙ ap (λ q. value_steps rules place node label q (view v) ++ (order_steps rules place node label (view v) ++ members_steps rules at node (members_view left))) (sym n)

module _ (rules : JsonRules) (b c d : Building) (steps : List JsonStep) (at : Pointer) (node : Name) (entries left : List Entry) (key : Text Global) (v : Json) (label place name : List ℕ)
    (split : entries ≡ (key, v) ∷ left) (l : label ≡ string_bytes key) (p : place ≡ member_place at label) (n : name ≡ member_name node label)
    (whole : Continues b steps c (members_steps rules at node (members_view entries))) where
  -- the value comes next
  value_next : Continues b steps c (value_steps rules place node label name (view v) ++ (order_steps rules place node label (view v) ++ members_steps rules at node (members_view left)))
  value_next = subst (λ rest. Continues b steps c rest) (next_members rules at node entries left key v label place name split l p n) whole

  pub members_stop : (e : JsonRefusal) → Ends c (value_steps rules place node label name (view v)) d (json_ending (Err e)) → Ends b steps d (json_ending (Err e))
  members_stop e ends =
      stop b c d steps (value_steps rules place node label name (view v)) (order_steps rules place node label (view v) ++ members_steps rules at node (members_view left)) e value_next ends

  module _ (leads : Leads c (value_steps rules place node label name (view v)) d) where
    -- and then its order
    order_next : Continues b steps d (order_steps rules place node label (view v) ++ members_steps rules at node (members_view left))
    order_next =
        Continues-step b c d steps (value_steps rules place node label name (view v)) (order_steps rules place node label (view v) ++ members_steps rules at node (members_view left)) value_next leads

    pub order_stop : (f : Building) (e : JsonRefusal) → Ends d (order_steps rules place node label (view v)) f (json_ending (Err e)) → Ends b steps f (json_ending (Err e))
    order_stop f e ends = stop b d f steps (order_steps rules place node label (view v)) (members_steps rules at node (members_view left)) e order_next ends

    pub members_step : (f : Building) → Leads d (order_steps rules place node label (view v)) f → Continues b steps f (members_steps rules at node (members_view left))
    members_step f ordered = Continues-step b d f steps (order_steps rules place node label (view v)) (members_steps rules at node (members_view left)) order_next ordered

pub no_record : (rules : JsonRules) (at : Pointer) (c n : Name) (d : Data) → ◌≡◌ {A = Option Members} None (as_object d) → record_steps rules at c n d ≡ fails (NotRecords at) ∷ []
no_record rules at c n (object os) h = cc
no_record rules at c n d h = refl

next_records : (rules : JsonRules) (at : Pointer) (c name : Name) (i : ℕ) (items : List Json) (x : Json) (place node : List ℕ)
    → i < length items → x ≡ get_or items i x → place ≡ item_place at i → node ≡ item_name name i
    → records_steps rules at c name i (items_view (drop i items)) ≡ record_steps rules place c node (view x) ++ records_steps rules at c name (i + 1) (items_view (drop (i + 1) items))
next_records rules at c name i items x place node lt is p n =
    let split : drop i items ≡ x ∷ drop (i + 1) items = drop_more items i x lt ∙ ap (λ y. y ∷ drop (i + 1) items) (sym is) in
    ap (λ xs. records_steps rules at c name i (items_view xs)) split
    ∙ ap (λ q. record_steps rules q c (item_name name i) (view x) ++ records_steps rules at c name (i + 1) (items_view (drop (i + 1) items))) (sym p)
    ∙ ap (λ q. record_steps rules place c q (view x) ++ records_steps rules at c name (i + 1) (items_view (drop (i + 1) items))) (sym n)

pub records_step : (rules : JsonRules) (b g d : Building) (steps : List JsonStep) (at : Pointer) (c name : Name) (i : ℕ) (items : List Json) (x : Json) (place node : List ℕ)
    → i < length items → x ≡ get_or items i x → place ≡ item_place at i → node ≡ item_name name i
    → Continues b steps g (records_steps rules at c name i (items_view (drop i items)))
    → Leads g (record_steps rules place c node (view x)) d
    → Continues b steps d (records_steps rules at c name (i + 1) (items_view (drop (i + 1) items)))
records_step rules b g d steps at c name i items x place node lt is p n whole leads =
    Continues-step b g d steps (record_steps rules place c node (view x)) (records_steps rules at c name (i + 1) (items_view (drop (i + 1) items)))
    (subst (λ rest. Continues b steps g rest) (next_records rules at c name i items x place node lt is p n) whole) leads

pub records_stop : (rules : JsonRules) (b g d : Building) (steps : List JsonStep) (at : Pointer) (c name : Name) (i : ℕ) (items : List Json) (x : Json) (place node : List ℕ) (e : JsonRefusal)
    → i < length items → x ≡ get_or items i x → place ≡ item_place at i → node ≡ item_name name i
    → Continues b steps g (records_steps rules at c name i (items_view (drop i items)))
    → Ends g (record_steps rules place c node (view x)) d (json_ending (Err e))
    → Ends b steps d (json_ending (Err e))
records_stop rules b g d steps at c name i items x place node e lt is p n whole ends =
    stop b g d steps (record_steps rules place c node (view x)) (records_steps rules at c name (i + 1) (items_view (drop (i + 1) items))) e
    (subst (λ rest. Continues b steps g rest) (next_records rules at c name i items x place node lt is p n) whole) ends

pub no_list : (rules : JsonRules) (at : Pointer) (c n : Name) (d : Data) → ◌≡◌ {A = Option Items} None (as_array d) → collection_steps rules at c n d ≡ fails (NotRecords at) ∷ []
no_list rules at c n (array ds) h = cc
no_list rules at c n d h = refl

next_collection : (rules : JsonRules) (stem top : Name) (entries left : List Entry) (key : Text Global) (v : Json) (label place name : List ℕ)
    → is_collection rules (view v) ≡ true → top ≡ [] → entries ≡ (key, v) ∷ left → label ≡ string_bytes key → place ≡ member_place top label → name ≡ member_name stem label
    → collections_steps rules stem (members_view entries) ≡ collection_steps rules place label name (view v) ++ collections_steps rules stem (members_view left)
next_collection rules stem top entries left key v label place name table none split l p n =
    ap (λ es. collections_steps rules stem (members_view es)) split
    ∙ ap (λ b. (if b then collection_steps rules (member_place [] (string_bytes key)) (string_bytes key) (member_name stem (string_bytes key)) (view v) else []) ++ collections_steps rules stem (members_view left)) table
    ∙ ap (λ q. collection_steps rules (member_place [] q) q (member_name stem q) (view v) ++ collections_steps rules stem (members_view left)) (sym l)
    ∙ ap (λ q. collection_steps rules (member_place q label) label (member_name stem label) (view v) ++ collections_steps rules stem (members_view left)) (sym none)
    ∙ ap (λ q. collection_steps rules q label (member_name stem label) (view v) ++ collections_steps rules stem (members_view left)) (sym p)
    ∙ ap (λ q. collection_steps rules place label q (view v) ++ collections_steps rules stem (members_view left)) (sym n)

pub collections_step : (rules : JsonRules) (b c d : Building) (steps : List JsonStep) (stem top : Name) (entries left : List Entry) (key : Text Global) (v : Json) (label place name : List ℕ)
    → is_collection rules (view v) ≡ true → top ≡ [] → entries ≡ (key, v) ∷ left → label ≡ string_bytes key → place ≡ member_place top label → name ≡ member_name stem label
    → Continues b steps c (collections_steps rules stem (members_view entries))
    → Leads c (collection_steps rules place label name (view v)) d
    → Continues b steps d (collections_steps rules stem (members_view left))
collections_step rules b c d steps stem top entries left key v label place name table none split l p n whole leads =
    Continues-step b c d steps (collection_steps rules place label name (view v)) (collections_steps rules stem (members_view left))
    (subst (λ rest. Continues b steps c rest) (next_collection rules stem top entries left key v label place name table none split l p n) whole) leads

pub collections_stop : (rules : JsonRules) (b c d : Building) (steps : List JsonStep) (stem top : Name) (entries left : List Entry) (key : Text Global) (v : Json) (label place name : List ℕ) (e : JsonRefusal)
    → is_collection rules (view v) ≡ true → top ≡ [] → entries ≡ (key, v) ∷ left → label ≡ string_bytes key → place ≡ member_place top label → name ≡ member_name stem label
    → Continues b steps c (collections_steps rules stem (members_view entries))
    → Ends c (collection_steps rules place label name (view v)) d (json_ending (Err e))
    → Ends b steps d (json_ending (Err e))
collections_stop rules b c d steps stem top entries left key v label place name e table none split l p n whole ends =
    stop b c d steps (collection_steps rules place label name (view v)) (collections_steps rules stem (members_view left)) e
    (subst (λ rest. Continues b steps c rest) (next_collection rules stem top entries left key v label place name table none split l p n) whole) ends

-- a text that was not read
pub unread : (rules : JsonRules) (b : Building) (stem : Name) (bytes : List ℕ) (e : JsonRefusal) → (e ≡ NoMemory) ⊎ ((e ≡ NotJson) × (value_of rules bytes ≡ None)) → Ends b (text_steps rules stem bytes) b (json_ending (Err e))
unread rules b stem bytes e (inl is) = rw is ([], text_steps rules stem bytes, refl, refl)
unread rules b stem bytes e (inr none) = rw none.0 ([], [], ap (steps_of rules stem) none.1, refl)

-- a list with an item is a list of objects just where its items are objects
pub table_is : (d : Data) (xs : List Json) → Some (items_view xs) ≡ as_array d → (length xs == 0) ≡ false → is_table d ≡ are_objects (items_view xs)
table_is (array ds) [] e h = cc
table_is (array ds) (x ∷ xs) e h =
    let same : items_view (x ∷ xs) ≡ ds = cc in
    subst (λ y. is_table (array y) ≡ are_objects (items_view (x ∷ xs))) same refl
table_is d xs e h = cc

pub no_table : (d : Data) (xs : List Json) → Some (items_view xs) ≡ as_array d → (length xs == 0) ≡ true → is_table d ≡ false
no_table (array ds) [] e h =
    let none : List Json = [] in
    let same : items_view none ≡ ds = cc in
    subst (λ y. is_table (array y) ≡ false) same refl
no_table (array ds) (x ∷ xs) e h = absurd (omega (arith, eqb-true (length (x ∷ xs)) 0 h))
no_table d xs e h = cc
