-- Lists whose items have an order to be kept.
use Rattle.std.specs.Prelude.{◌&&◌, ◌||◌, ℕ, ℤ, Bool, true, false, List, [], ◌++◌, codes}
use Rattle.std.specs.Prelude.{Option, Some, None, is_some, option_and_then}
use Rattle.std.specs.Fmt.{signed_decimal}
use Rattle.serde_json.specs.Data.{Data, array, Items, no_items, item}
use Rattle.serde_json.specs.Find.{as_str, as_number, as_i64, as_array}

-- an integer of 64 bits
abbrev pub as_integer : Data → Option ℤ
as_integer d = option_and_then as_i64 (as_number d)

-- how a text or else a number is shown
abbrev pub shown_as : Option (List ℕ) → Option ℤ → List ℕ
shown_as (Some text) n = text
shown_as None (Some n) = signed_decimal n
shown_as None None = []

abbrev pub shown : Data → List ℕ
shown d = shown_as (as_str d) (as_integer d)

abbrev pub are_shown : Items → Bool
are_shown no_items = true
are_shown (item d ds) = (is_some (as_str d) || is_some (as_integer d)) && are_shown ds

abbrev pub has_two : Items → Bool
has_two (item d (item e ds)) = true
has_two ds = false

abbrev pub are_ordered : Option Items → Bool
are_ordered None = false
are_ordered (Some ds) = has_two ds && are_shown ds

-- a list of two or more items, each of them a text or an integer of 64 bits
abbrev pub has_order : Data → Bool
has_order d = are_ordered (as_array d)

-- items, each after `, `
abbrev pub further : Items → List ℕ
further no_items = []
further (item d ds) = codes ", " ++ shown d ++ further ds

abbrev pub items_text : Items → List ℕ
items_text no_items = []
items_text (item d ds) = shown d ++ further ds

abbrev pub list_text : Option Items → List ℕ
list_text None = []
list_text (Some ds) = items_text ds

-- the items of a list in their order, with `, ` between them
abbrev pub order_text : Data → List ℕ
order_text d = list_text (as_array d)
