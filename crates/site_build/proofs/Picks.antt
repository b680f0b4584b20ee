-- What each query picks from a site's contents is exactly what is asked for, in its order.
use Rattle.std.specs.Prelude.{◌≡◌, List, Contains}
use Rattle.std.specs.declared.cmp.Ordering.{Ordering}
use Rattle.std.specs.Ordering.{on, then_cmp, ordering_index}
use Rattle.std.specs.Cmp.{IsTotalOrder}
use Rattle.std.specs.List.Sorted.{IsStrictlySortedBy}
use Rattle.std.proofs.Common.{ℕ, take, drop, refl, sym, ◌∙◌, subst}
use Rattle.std.proofs.lemmas.List.Sorted.{IsNonDecreasingBy-drop, IsNonDecreasingBy-take}
use Rattle.std.proofs.lemmas.Cmp.{on_total, then_total}
use Rattle.sd_value.specs.declared.Term.{Term}
use Rattle.sd_value.specs.declared.Value.{Value}
use Rattle.sd_value.specs.Order.{bytes_cmp, term_cmp, value_cmp}
use Rattle.sd_value.specs.OrderLaws.{bytes_cmp-total, bytes_cmp-exact, term_cmp-total, term_cmp-exact, both_tie}
use Rattle.sd_value.specs.Ascending.{ListsExactly}
use Rattle.graph_spec.specs.DataGraph.{Name}
use Rattle.list_lookup.specs.Picked.{picked, IsPlaced, HasOne}
use Rattle.list_lookup.specs.PickedLaws.{picked-lists}
use Rattle.list_lookup.proofs.Placed.{then_tied, after_tie, first_not_above, two_not_above, not_both, names_tied, terms_tied, placed}
use Rattle.site_build.specs.declared.ordered.Joined.{Joined}
use Rattle.site_build.specs.declared.ordered.Put.{Put}
use Rattle.site_build.specs.Ordered.{joined_cmp, put_cmp}
use Rattle.site_build.specs.Places.{at_link, at_name, at_term}

abbrev key_cmp : Term × Name → Term × Name → Ordering
key_cmp = then_cmp (on (λ p. p.0) term_cmp) (on (λ p. p.1) bytes_cmp)

key_cmp-total : IsTotalOrder key_cmp
key_cmp-total = then_total (on_total (λ p. p.0) term_cmp-total) (on_total (λ p. p.1) bytes_cmp-total)

pub placed-link : (from : Term) (label : Name) (js : List Joined) → IsStrictlySortedBy joined_cmp js → IsPlaced (at_link from label) js
placed-link from label js up =
    placed joined_cmp key_cmp key_cmp-total (λ j. (j.from, j.label)) (from, label) js
    (λ x y h k. two_not_above (term_cmp x.from y.from) (bytes_cmp x.label y.label) (value_cmp x.to y.to) h k) up

-- a part of the links is in order too
pub placed-near : (from : Term) (label : Name) (js : List Joined) (n lo : ℕ) → IsStrictlySortedBy joined_cmp js → IsPlaced (at_link from label) (take n (drop lo js))
placed-near from label js n lo up =
    let index : Joined → ℕ = λ j. ordering_index (at_link from label j) in
    IsNonDecreasingBy-take index n (drop lo js) (IsNonDecreasingBy-drop index lo js (placed-link from label js up))

pub placed-name : (name : Name) (ps : List Put) → IsStrictlySortedBy put_cmp ps → IsPlaced (at_name name) ps
placed-name name ps up =
    placed put_cmp bytes_cmp bytes_cmp-total (λ p. p.collection) name ps (λ x y h k. first_not_above (bytes_cmp x.collection y.collection) (value_cmp x.value y.value) h k) up

pub placed-term : (t : Term) (ts : List Term) → IsStrictlySortedBy term_cmp ts → IsPlaced (at_term t) ts
placed-term t ts up = placed term_cmp term_cmp term_cmp-total (λ u. u) t ts (λ x y h k. not_both (term_cmp x y) h k) up

abbrev pub link_to : Term → Name → Value → Joined
link_to from label v = record { from = from; label = label; to = v }

abbrev pub put_at : Name → Value → Put
put_at name v = record { collection = name; value = v }

pub lists-links : (js : List Joined) → IsStrictlySortedBy joined_cmp js → (from : Term) (label : Name) → ListsExactly value_cmp (λ v. Contains js (link_to from label v)) (picked (at_link from label) (λ j. j.to) js)
lists-links js up from label =
    picked-lists joined_cmp value_cmp (at_link from label) (λ j. j.to) (λ v. Contains js (link_to from label v)) js
    (record {
      at = λ x y h k less.
          let p = both_tie (term_cmp x.from from) _ h in let q = both_tie (term_cmp y.from from) _ k in
          let f : x.from ≡ y.from = term_cmp-exact x.from from p.0 ∙ sym (term_cmp-exact y.from from q.0) in
          let l : x.label ≡ y.label = bytes_cmp-exact x.label label p.1 ∙ sym (bytes_cmp-exact y.label label q.1) in
          sym (after_tie (term_cmp x.from y.from) _ (terms_tied x.from y.from f) ∙ after_tie (bytes_cmp x.label y.label) _ (names_tied x.label y.label l)) ∙ less;
    })
    up
    (λ j at h.
    let p = both_tie (term_cmp j.from from) _ h in
    let f = term_cmp-exact j.from from p.0 in
    let l = bytes_cmp-exact j.label label p.1 in
    let e : j ≡ link_to from label j.to = λ i. record { from = f i; label = l i; to = j.to } in
    subst (Contains js) e at)
    (λ v has. (link_to from label v, has, then_tied (term_cmp from from) (bytes_cmp label label) (terms_tied from from refl) (names_tied label label refl), refl))

pub lists-puts : (ps : List Put) → IsStrictlySortedBy put_cmp ps → (name : Name) → ListsExactly value_cmp (λ v. Contains ps (put_at name v)) (picked (at_name name) (λ p. p.value) ps)
lists-puts ps up name =
    picked-lists put_cmp value_cmp (at_name name) (λ p. p.value) (λ v. Contains ps (put_at name v)) ps
    (record {
      at = λ x y h k less.
          let c : x.collection ≡ y.collection = bytes_cmp-exact x.collection name h ∙ sym (bytes_cmp-exact y.collection name k) in
          sym (after_tie (bytes_cmp x.collection y.collection) _ (names_tied x.collection y.collection c)) ∙ less;
    })
    up
    (λ p at h. let c = bytes_cmp-exact p.collection name h in let e : p ≡ put_at name p.value = λ i. record { collection = c i; value = p.value } in subst (Contains ps) e at)
    (λ v has. (put_at name v, has, names_tied name name refl, refl))

pub term_found : (t : Term) (ts : List Term) → (HasOne (at_term t) ts → Contains ts t) × (Contains ts t → HasOne (at_term t) ts)
term_found t ts = (λ (u, at, h). subst (Contains ts) (term_cmp-exact u t h) at, λ at. (t, at, terms_tied t t refl))
