-- The functions of a name stand together in an ascending list.
use Rattle.std.specs.Prelude.{List, ℕ}
use Rattle.std.specs.Ordering.{nat_cmp}
use Rattle.std.specs.List.Sorted.{IsStrictlySortedBy}
use Rattle.sd_value.specs.Order.{bytes_cmp}
use Rattle.sd_value.specs.OrderLaws.{bytes_cmp-total}
use Rattle.list_lookup.specs.Picked.{IsPlaced}
use Rattle.list_lookup.proofs.Placed.{placed, first_not_above}
use Rattle.schema.specs.declared.SchemaFunction.{SchemaFunction}
use Rattle.schema.specs.Orders.{function_cmp}

pub names_placed : (fs : List SchemaFunction) (name : List ℕ) → IsStrictlySortedBy function_cmp fs → IsPlaced (λ (f : SchemaFunction). bytes_cmp f.name name) fs
names_placed fs name up =
    placed function_cmp bytes_cmp bytes_cmp-total (λ (f : SchemaFunction). f.name) name fs (λ x y h k. first_not_above (bytes_cmp x.name y.name) (nat_cmp x.arity y.arity) h k) up
