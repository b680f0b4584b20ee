-- The lists of objects in an object.
use Rattle.std.specs.Prelude.{◌&&◌, ◌||◌, not, Bool, true, false, is_some}
use Rattle.serde_json.specs.Data.{Data, array, Items, no_items, item, Members, no_members, member}
use Rattle.serde_json.specs.Find.{as_object}
use Rattle.json_source.specs.declared.rules.JsonRules.{JsonRules}

abbrev pub is_object : Data → Bool
is_object d = is_some (as_object d)

abbrev pub are_objects : Items → Bool
are_objects no_items = true
are_objects (item d ds) = is_object d && are_objects ds

abbrev pub has_items : Items → Bool
has_items no_items = false
has_items (item d ds) = true

-- a list of objects: it has an item, and each of its items is an object
abbrev pub is_table : Data → Bool
is_table (array ds) = has_items ds && are_objects ds
is_table d = false

-- whether an object holds a list of objects
abbrev pub has_table : Members → Bool
has_table no_members = false
has_table (member key d ms) = is_table d || has_table ms

-- a list without items
abbrev pub is_empty_list : Data → Bool
is_empty_list (array no_items) = true
is_empty_list d = false

abbrev pub are_empty_lists : Members → Bool
are_empty_lists no_members = true
are_empty_lists (member key d ms) = is_empty_list d && are_empty_lists ms

-- whether an object holds empty lists, one at least, and nothing else
abbrev pub holds_empty_lists : Members → Bool
holds_empty_lists no_members = false
holds_empty_lists (member key d ms) = are_empty_lists (member key d ms)

-- whether a member of an object at the top is a collection: any, or by the rules a list of objects
abbrev pub is_collection : JsonRules → Data → Bool
is_collection rules d = not rules.tables || is_table d

-- whether an object at the top holds collections, or lists that may become some: else it is one record
abbrev pub holds_collections : JsonRules → Members → Bool
holds_collections rules ms = not rules.tables || has_table ms || holds_empty_lists ms
