-- How values are put in order by keys.
use Rattle.std.specs.Prelude.{Bool, true, false, Option, Some, None, if◌then◌else◌}
use Rattle.std.specs.Str.{is_utf8}
use Rattle.std.specs.declared.cmp.Ordering.{Ordering}
use Rattle.std.specs.declared.cmp.Ordering.TheVariants.{Less, Equal, Greater}
use Rattle.std.specs.Ordering.{on, then_cmp}
use Rattle.sd_value.specs.declared.Datum.TheVariants.{Int, Text, Url, File, Node}
use Rattle.sd_value.specs.declared.Value.{Value}
use Rattle.sd_value.specs.declared.Value.TheVariants.{Data, Page}
use Rattle.sd_value.specs.Names.{Name}
use Rattle.sd_value.specs.Order.{value_cmp}
use Rattle.function_spec.specs.Folding.{fold}

-- where a value stands: a Text where its folded text does
abbrev pub folded : (Name → Name) → Value → Value
folded f (Data (Text t)) = Data (Text (f t))
folded f v = v

-- a text that is UTF-8 is folded, and other bytes stand as they are
abbrev pub folded_text : Name → Name
folded_text t = if is_utf8 t then fold t else t

-- of texts: as a fold makes them, ties by bytes
abbrev pub folded_cmp : (Name → Name) → Bool → Value → Value → Ordering
folded_cmp f false = value_cmp
folded_cmp f true = then_cmp (on (folded f) value_cmp) value_cmp

-- the order, or that turned round
abbrev pub turned_cmp : {X : Type 0} → Bool → (X → X → Ordering) → X → X → Ordering
turned_cmp false R a b = R a b
turned_cmp true R a b = R b a

-- those without a key come last
abbrev pub keyed_cmp : {X : Type 0} → (X → X → Ordering) → Option X → Option X → Ordering
keyed_cmp R (Some a) (Some b) = R a b
keyed_cmp R (Some a) None = Less
keyed_cmp R None (Some b) = Greater
keyed_cmp R None None = Equal
