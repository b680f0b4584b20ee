-- The orders of functions and of links.
use Rattle.std.specs.declared.cmp.Ordering.{Ordering}
use Rattle.std.specs.Ordering.{on, then_cmp, nat_cmp}
use Rattle.std.specs.Cmp.{IsTotalOrder, nat_cmp_total, ranked}
use Rattle.std.specs.declared.cmp.Ordering.TheVariants.{Equal}
use Rattle.std.proofs.Common.{sym}
use Rattle.std.specs.FinMap.{IsAntisymmetric}
use Rattle.std.proofs.lemmas.Cmp.{on_total, then_total}
use Rattle.sd_value.specs.Order.{bytes_cmp}
use Rattle.sd_value.specs.OrderLaws.{bytes_cmp-total, bytes_cmp-exact, both_tie}
use Rattle.schema.specs.declared.SchemaFunction.{SchemaFunction}
use Rattle.schema.specs.declared.SchemaEdge.{SchemaEdge}

-- functions by name, and then by number of arguments
abbrev pub function_cmp : SchemaFunction → SchemaFunction → Ordering
function_cmp = then_cmp (on (λ f. f.name) bytes_cmp) (on (λ f. f.arity) nat_cmp)

pub function_cmp-total : IsTotalOrder function_cmp
function_cmp-total =
    then_total (on_total (λ f. f.name) bytes_cmp-total) (on_total (λ f. f.arity) nat_cmp_total)

pub function_cmp-exact : IsAntisymmetric function_cmp
function_cmp-exact a b h =
    let parts = both_tie (bytes_cmp a.name b.name) _ h in
    let n = bytes_cmp-exact a.name b.name parts.0 in
    let m = ranked a.arity b.arity Equal (sym parts.1) in
    λ i. record { name = n i; arity = m i }

-- links by the names of the functions at which they start
abbrev pub edge_cmp : SchemaEdge → SchemaEdge → Ordering
edge_cmp = on (λ e. e.source.name) bytes_cmp

pub edge_cmp-total : IsTotalOrder edge_cmp
edge_cmp-total = on_total (λ e. e.source.name) bytes_cmp-total
