-- The order of members with their keys is total, and ties nothing but equals.
use Rattle.std.specs.Prelude.{true, false}
use Rattle.std.specs.Cmp.{IsTotalOrder}
use Rattle.std.specs.FinMap.{IsAntisymmetric}
use Rattle.std.proofs.lemmas.Cmp.{on_total, then_total}
use Rattle.sd_value.specs.OrderLaws.{bytes_cmp-total, bytes_cmp-exact, both_tie}
use Rattle.key_spec.specs.Keys.{keyed_cmp, turned_cmp}
use Rattle.key_spec.specs.KeyLaws.{turned_total, turned_exact, keyed_total, keyed_exact}
use Rattle.sort_keys.specs.Keys.{key_cmp}
use Rattle.sort_keys.specs.KeyLaws.{key_cmp-total, key_cmp-exact}
use Rattle.graph_order.specs.Keys.{ranked_cmp}

-- the order of members with their keys is total
pub ranked_cmp-total : IsTotalOrder ranked_cmp
ranked_cmp-total =
    then_total (on_total (λ r. r.up) (keyed_total (turned_total key_cmp-total false)))
    (then_total (on_total (λ r. r.down) (keyed_total (turned_total key_cmp-total true)))
    (on_total (λ r. r.node) bytes_cmp-total))

-- members that tie are one member
pub ranked_cmp-exact : IsAntisymmetric ranked_cmp
ranked_cmp-exact a b h =
    let ties = both_tie (keyed_cmp (turned_cmp false key_cmp) a.up b.up) _ h in
    let rest = both_tie (keyed_cmp (turned_cmp true key_cmp) a.down b.down) _ ties.1 in
    let u = keyed_exact (turned_exact key_cmp-exact false) a.up b.up ties.0 in
    let d = keyed_exact (turned_exact key_cmp-exact true) a.down b.down rest.0 in
    let n = bytes_cmp-exact a.node b.node rest.1 in
    λ i. record { up = u i; down = d i; node = n i }
