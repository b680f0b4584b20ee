-- Counts by name.
use Rattle.std.specs.Prelude.{◌≡◌, ℕ, List, unwrap_or}
use Rattle.std.specs.BTreeMap.{BTreeMap, get}
use Rattle.sd_value.specs.Order.{bytes_cmp}
use Rattle.graph_spec.specs.DataGraph.{Name}
use Rattle.plan_spec.specs.declared.Counted.{Counted}
use Rattle.plan_spec.specs.declared.Counts.{Counts}
use Rattle.plan_spec.specs.Shape.{count_of}

-- the count of a name in a map; what isn't there counts nothing
abbrev pub count_in : BTreeMap Name ℕ → Name → ℕ
count_in counts name = unwrap_or (get bytes_cmp counts name) 0

-- the map has of each name the count that the list has
abbrev pub CountsAs : List Counted → BTreeMap Name ℕ → Type 0
CountsAs counted counts = (name : Name) → count_in counts name ≡ count_of counted name

-- labels and collections have by name the counts that are listed
pub record IsPriced (counts : Counts) (labels collections : BTreeMap Name ℕ) : Type 0 where
  pub labels_as : CountsAs counts.labels.items labels
  pub collections_as : CountsAs counts.collections.items collections
