-- The members with their numbers in the order, and the edges of one of them.
use Rattle.std.specs.Prelude.{◌≡◌, ℕ, zero, suc, ◌+◌, ◌<◌, List, [], ◌∷◌, flat_map, slice_get, Contains, Option, None}
use Rattle.std.specs.declared.cmp.Ordering.{Ordering}
use Rattle.std.specs.Ordering.{on, then_cmp, nat_cmp}
use Rattle.std.specs.Cmp.{IsTotalOrder}
use Rattle.std.specs.FinMap.{IsAntisymmetric, nat_cmp-IsAntisymmetric}
use Rattle.std.proofs.lemmas.Cmp.{on_total, then_total, nat_cmp_total}
use Rattle.sd_value.specs.Names.{Name}
use Rattle.sd_value.specs.Order.{bytes_cmp}
use Rattle.sd_value.specs.OrderLaws.{bytes_cmp-total, bytes_cmp-exact, both_tie}
use Rattle.graph_spec.specs.declared.Edge.{Edge}
use Rattle.order_spec.specs.Order.{Place, edges_at}
use Rattle.graph_order.specs.declared.numbers.Numbered.{Numbered}

-- names with their numbers, of which the first is i
abbrev pub numbers_from : ℕ → List Name → List Numbered
numbers_from i [] = []
numbers_from i (n ∷ ns) = record { node = n; number = i } ∷ numbers_from (i + 1) ns

-- the name before the one of a number
abbrev pub name_before : List Name → ℕ → Option Name
name_before ns zero = None
name_before ns (suc i) = slice_get ns i

-- the edges of one member of those in order
abbrev pub edges_of_member : List Place → List Name → Numbered → List Edge
edges_of_member places ns m =
    flat_map (λ p. edges_at p m.number (name_before ns m.number) m.node (slice_get ns (m.number + 1)))
    places

-- all numbers are below this one
abbrev pub AreBelow : ℕ → List Numbered → Type 0
AreBelow n ms = (m : Numbered) → Contains ms m → m.number < n

-- by node, then by number
abbrev pub numbered_cmp : Numbered → Numbered → Ordering
numbered_cmp = then_cmp (on (λ m. m.node) bytes_cmp) (on (λ m. m.number) nat_cmp)

-- that order is total
pub numbered_cmp-total : IsTotalOrder numbered_cmp
numbered_cmp-total = then_total (on_total (λ m. m.node) bytes_cmp-total)
    (on_total (λ m. m.number) nat_cmp_total)

-- and ties nothing but equals
pub numbered_cmp-exact : IsAntisymmetric numbered_cmp
numbered_cmp-exact a b h =
    let ties = both_tie (bytes_cmp a.node b.node) _ h in
    let n = bytes_cmp-exact a.node b.node ties.0 in
    let i = nat_cmp-IsAntisymmetric a.number b.number ties.1 in
    λ j. record { node = n j; number = i j }
