use Rattle.std.proofs.Common.{arith, ap, sym, ◌∙◌, subst, map, length, get_or, ℕ, List}
use Rattle.std.specs.Prelude.{◌<◌, ◌≡◌, All, slice_index}
use Rattle.std.proofs.lemmas.List.{length-map}
use Rattle.index_store.specs.Ranks.{targets, IsInOrder, AreRanks}
use Rattle.index_store.proofs.KeyedLaws.{order_fits, order_apart, order_short, originals_fit, ranks_are}
use Rattle.index_store.proofs.ranks.ranks_of.Goals as goal

pub inverse-requires-clause-fits : goal.inverse-requires-clause-fits
inverse-requires-clause-fits g c =
    let in_order = subst (λ (ps : List ℕ). IsInOrder g.K.Ord.cmp (targets c.args.items.now) ps c.in_ok-firsts.firsts.items) c.as_slice.ensures.value c.in_ok-firsts.ensures in
    subst (All (λ i. i < length c.args.items.now)) (sym c.as_slice-2.ensures.value)
    (subst (λ n. All (λ i. i < n) c.in_ok-firsts.firsts.items) (length-map c.args.items.now (λ r. r.now)) (order_fits g.K.Ord.cmp g.met.K.Ord.total _ _ _ _ c.in_ok-found.ensures in_order))

pub inverse-requires-clause-small : goal.inverse-requires-clause-small
inverse-requires-clause-small g c =
    let in_order = subst (λ (ps : List ℕ). IsInOrder g.K.Ord.cmp (targets c.args.items.now) ps c.in_ok-firsts.firsts.items) c.as_slice.ensures.value c.in_ok-firsts.ensures in
    let short = order_short g.K.Ord.cmp g.met.K.Ord.total _ _ _ _ c.in_ok-found.ensures in_order in
    omega (arith, short, length-map c.args.items.now (λ r. r.now), c.requires, ap length c.as_slice-2.ensures.value)

pub inverse-requires-clause-apart : goal.inverse-requires-clause-apart
inverse-requires-clause-apart g c = λ a b less l e.
    let in_order = subst (λ (ps : List ℕ). IsInOrder g.K.Ord.cmp (targets c.args.items.now) ps c.in_ok-firsts.firsts.items) c.as_slice.ensures.value c.in_ok-firsts.ensures in
    order_apart g.K.Ord.cmp g.met.K.Ord.total _ _ _ _ c.in_ok-found.ensures in_order a b less (rw c.as_slice-2.ensures.value at l) (rw c.as_slice-2.ensures.value at e)

pub at_places-requires : goal.at_places-requires
at_places-requires g c =
    let in_order = subst (λ (ps : List ℕ). IsInOrder g.K.Ord.cmp (targets c.args.items.now) ps c.in_ok-firsts.firsts.items) c.as_slice.ensures.value c.in_ok-firsts.ensures in
    let fit = originals_fit g.K.Ord.cmp g.met.K.Ord.total _ _ _ _ c.in_ok-found.ensures in_order in
    λ k d l. omega (arith, fit k d (rw c.as_slice-4.ensures.value at l), length-map c.args.items.now (λ r. r.now), ap length c.as_slice-3.ensures.value, c.in_ok-inverse.ensures.long, ap (λ (xs : List ℕ). get_or xs k d) c.as_slice-4.ensures.value)

pub returns : goal.returns
returns g c =
    let in_order = subst (λ (ps : List ℕ). IsInOrder g.K.Ord.cmp (targets c.args.items.now) ps c.in_ok-firsts.firsts.items) c.as_slice.ensures.value c.in_ok-firsts.ensures in
    let is = c.in_ok-ranks.ensures ∙ ap (λ (ns : List ℕ). map (slice_index ns) c.as_slice-4.result.now) c.as_slice-3.ensures.value ∙ ap (map (slice_index c.in_ok-inverse.inverse.items)) c.as_slice-4.ensures.value in
    subst (AreRanks g.K.Ord.cmp (targets c.args.items.now) c.in_ok-firsts.firsts.items) (sym is)
    (ranks_are g.K.Ord.cmp g.met.K.Ord.total _ _ _ _ c.in_ok-found.ensures in_order g.met.K.ExactOrd.exact c.in_ok-inverse.inverse.items
    (subst (λ (os : List ℕ). (r : ℕ) → r < length os → slice_index c.in_ok-inverse.inverse.items (slice_index os r) ≡ r) c.as_slice-2.ensures.value c.in_ok-inverse.ensures.back))
