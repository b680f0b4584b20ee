use Rattle.std.proofs.Common.{◌≡◌, List, ℕ, subst, sym, ap, ◌∙◌, inl, inr, arith}
use Rattle.std.specs.Prelude.{Contains, length, pos}
use Rattle.std.specs.Ordering.{int_cmp}
use Rattle.sd_value.specs.declared.Value.{Value}
use Rattle.sd_value.specs.Order.{value_cmp}
use Rattle.sd_value.specs.OrderLaws.{value_cmp-total, value_cmp-exact}
use Rattle.std.specs.List.Sorted.{IsStrictlySortedBy}
use Rattle.sd_value.specs.Ascending.{ListsExactly}
use Rattle.page_spec.specs.Site.{Env, InRange}
use Rattle.page_spec.specs.Pieces.{holds_of}
use Rattle.page_spec.proofs.Unique.{listing_unique}
use Rattle.render.specs.Asks.{RangeAsks}
use Rattle.render.proofs.Asked.{keeps_as, keeps_then, range_tests}
use Rattle.render.proofs.choices.holds.Goals as goal

pub returns-in-Any-clause-answer : goal.returns-in-Any-clause-answer
returns-in-Any-clause-answer g c =
    let exact = c.in_ok-values.ensures.answer in
    rw c.in-Any.is (λ t. let q = c.has_any.ensures.0 t in (q.0, exact.sound q.0 q.1), λ (v, r). c.has_any.ensures.1 (v, exact.complete v r))

pub returns-in-Compares-clause-answer : goal.returns-in-Compares-clause-answer
returns-in-Compares-clause-answer g c =
    let exact = c.in_ok-values.ensures.answer in
    let s = c.as_slice.ensures.value in
    rw c.in-Compares.is (λ t. let q = c.any_compares.ensures.0 t in (q.0, exact.sound q.0 (subst (λ (l : List Value). Contains l q.0) s q.1), q.2), λ (v, r, k). c.any_compares.ensures.1 (v, subst (λ (l : List Value). Contains l v) (sym s) (exact.complete v r), k))

pub returns-in-Counts-clause-answer : goal.returns-in-Counts-clause-answer
returns-in-Counts-clause-answer g c =
    let exact = c.in_ok-values.ensures.answer in
    let vs = c.in_ok-values.values.items in
    let n = c.in-Counts.number in
    let count : c.len.result ≡ length vs = omega (arith, c.len.ensures, c.in_ok-values.values.ok.0) in
    let is : c.counts_so.result ≡ holds_of n.compare (int_cmp (pos (length vs)) n.constant) = c.counts_so.ensures ∙ ap (λ (k : ℕ). holds_of n.compare (int_cmp (pos k) n.constant)) count in
    rw c.in-Counts.is
    (λ t. (vs, exact, sym is ∙ t), λ (ws, listing, t). is ∙ ap (λ (l : List Value). holds_of n.compare (int_cmp (pos (length l)) n.constant)) (listing_unique value_cmp value_cmp-total value_cmp-exact _ vs ws exact listing) ∙ t)

pub returns-in_ok-others-in-Same-clause-answer : goal.returns-in_ok-others-in-Same-clause-answer
returns-in_ok-others-in-Same-clause-answer g c =
    let sc : Env = record { here = c.args.here.now; loops = c.args.loops.now } in
    let exact = c.in_ok-values.ensures.answer in
    let others = subst (λ x. ListsExactly value_cmp (InRange (g.V.SiteView.site x) sc c.in-Same.other) c.in_ok-others-in-Same.others.items) c.range.ensures.fixed c.in_ok-others-in-Same.ensures.answer in
    let one = c.as_slice-in-Same.ensures.value in
    let two = c.as_slice-in-Same-2.ensures.value in
    let both = c.have_common.ensures (subst (IsStrictlySortedBy value_cmp) (sym two) others.ascending) in
    rw c.in-Same.is (
      λ t. let q = both.0 t in (q.0, exact.sound q.0 (subst (λ (l : List Value). Contains l q.0) one q.1), others.sound q.0 (subst (λ (l : List Value). Contains l q.0) two q.2)),
      λ (v, r, k). both.1 (v, subst (λ (l : List Value). Contains l v) (sym one) (exact.complete v r), subst (λ (l : List Value). Contains l v) (sym two) (others.complete v k)),
    )

pub returns-in_err-values-clause-kept : goal.returns-in_err-values-clause-kept
returns-in_err-values-clause-kept g c =
    keeps_as (λ q h. range_tests (g.V.SiteView.site (g.V.SiteView.fixed c.args.view.now)) (record { here = c.args.here.now; loops = c.args.loops.now }) c.args.expr.now c.args.test.now q h) c.range.ensures.kept

pub returns-in-Any-clause-kept : goal.returns-in-Any-clause-kept
returns-in-Any-clause-kept g c =
    keeps_as (λ q h. range_tests (g.V.SiteView.site (g.V.SiteView.fixed c.args.view.now)) (record { here = c.args.here.now; loops = c.args.loops.now }) c.args.expr.now c.args.test.now q h) c.range.ensures.kept

pub returns-in-Compares-clause-kept : goal.returns-in-Compares-clause-kept
returns-in-Compares-clause-kept g c =
    keeps_as (λ q h. range_tests (g.V.SiteView.site (g.V.SiteView.fixed c.args.view.now)) (record { here = c.args.here.now; loops = c.args.loops.now }) c.args.expr.now c.args.test.now q h) c.range.ensures.kept

pub returns-in-Counts-clause-kept : goal.returns-in-Counts-clause-kept
returns-in-Counts-clause-kept g c =
    keeps_as (λ q h. range_tests (g.V.SiteView.site (g.V.SiteView.fixed c.args.view.now)) (record { here = c.args.here.now; loops = c.args.loops.now }) c.args.expr.now c.args.test.now q h) c.range.ensures.kept

pub returns-in_err-others-in-Same-clause-kept : goal.returns-in_err-others-in-Same-clause-kept
returns-in_err-others-in-Same-clause-kept g c =
    let sc : Env = record { here = c.args.here.now; loops = c.args.loops.now } in
    rw c.in-Same.is
    (keeps_then (keeps_as (λ q h. inl h) c.range.ensures.kept) (λ q h. inr (subst (λ x. RangeAsks (g.V.SiteView.site x) sc c.in-Same.other q) c.range.ensures.fixed h)) c.range-in-Same.ensures.kept)

pub returns-in_ok-others-in-Same-clause-kept : goal.returns-in_ok-others-in-Same-clause-kept
returns-in_ok-others-in-Same-clause-kept g c =
    let sc : Env = record { here = c.args.here.now; loops = c.args.loops.now } in
    rw c.in-Same.is
    (keeps_then (keeps_as (λ q h. inl h) c.range.ensures.kept) (λ q h. inr (subst (λ x. RangeAsks (g.V.SiteView.site x) sc c.in-Same.other q) c.range.ensures.fixed h)) c.range-in-Same.ensures.kept)
