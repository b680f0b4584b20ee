-- The orders of links, and of values that are put under a name: part by part.
use Rattle.std.specs.declared.cmp.Ordering.{Ordering}
use Rattle.std.specs.Ordering.{on, then_cmp}
use Rattle.std.specs.Cmp.{IsTotalOrder}
use Rattle.std.specs.FinMap.{IsAntisymmetric}
use Rattle.std.proofs.lemmas.Cmp.{on_total, then_total}
use Rattle.sd_value.specs.Order.{bytes_cmp, term_cmp, value_cmp}
use Rattle.sd_value.specs.OrderLaws.{bytes_cmp-total, bytes_cmp-exact, term_cmp-total, term_cmp-exact}
use Rattle.sd_value.specs.OrderLaws.{value_cmp-total, value_cmp-exact, both_tie}
use Rattle.site_build.specs.declared.ordered.Joined.{Joined}
use Rattle.site_build.specs.declared.ordered.Put.{Put}

abbrev pub joined_cmp : Joined → Joined → Ordering
joined_cmp =
    then_cmp (on (λ j. j.from) term_cmp)
    (then_cmp (on (λ j. j.label) bytes_cmp) (on (λ j. j.to) value_cmp))

pub joined_cmp-total : IsTotalOrder joined_cmp
joined_cmp-total =
    then_total (on_total (λ j. j.from) term_cmp-total)
    (then_total (on_total (λ j. j.label) bytes_cmp-total) (on_total (λ j. j.to) value_cmp-total))

pub joined_cmp-exact : IsAntisymmetric joined_cmp
joined_cmp-exact a b h =
    let starts = both_tie (term_cmp a.from b.from) _ h in
    let labels = both_tie (bytes_cmp a.label b.label) _ starts.1 in
    let f = term_cmp-exact a.from b.from starts.0 in
    let l = bytes_cmp-exact a.label b.label labels.0 in
    let t = value_cmp-exact a.to b.to labels.1 in
    λ i. record { from = f i; label = l i; to = t i }

abbrev pub put_cmp : Put → Put → Ordering
put_cmp = then_cmp (on (λ p. p.collection) bytes_cmp) (on (λ p. p.value) value_cmp)

pub put_cmp-total : IsTotalOrder put_cmp
put_cmp-total =
    then_total (on_total (λ p. p.collection) bytes_cmp-total)
    (on_total (λ p. p.value) value_cmp-total)

pub put_cmp-exact : IsAntisymmetric put_cmp
put_cmp-exact a b h =
    let collections = both_tie (bytes_cmp a.collection b.collection) _ h in
    let c = bytes_cmp-exact a.collection b.collection collections.0 in
    let v = value_cmp-exact a.value b.value collections.1 in
    λ i. record { collection = c i; value = v i }
