-- The order of keys is total, and ties nothing but equals.
use Rattle.std.specs.Cmp.{IsTotalOrder}
use Rattle.std.specs.FinMap.{IsAntisymmetric}
use Rattle.std.proofs.lemmas.Cmp.{on_total, then_total}
use Rattle.sd_value.specs.Order.{value_cmp}
use Rattle.sd_value.specs.OrderLaws.{value_cmp-total, value_cmp-exact, both_tie}
use Rattle.sort_keys.specs.Keys.{key_cmp}

-- the order of keys is total
pub key_cmp-total : IsTotalOrder key_cmp
key_cmp-total = then_total (on_total (λ k. k.stands) value_cmp-total)
    (on_total (λ k. k.value) value_cmp-total)

-- keys that tie are one key
pub key_cmp-exact : IsAntisymmetric key_cmp
key_cmp-exact a b h =
    let ties = both_tie (value_cmp a.stands b.stands) _ h in
    let s = value_cmp-exact a.stands b.stands ties.0 in
    let v = value_cmp-exact a.value b.value ties.1 in
    λ i. record { stands = s i; value = v i }
