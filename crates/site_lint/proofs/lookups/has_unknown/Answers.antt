use Rattle.std.proofs.Common.{ℕ, List}
use Rattle.std.proofs.lemmas.Bool.{false≢true}
use Rattle.graph_spec.specs.DataGraph.{IsLabelOf}
use Rattle.site_lint.proofs.Data.{each_more, each_all}
use Rattle.site_lint.proofs.lookups.has_unknown.Goals as goal

pub loop-label-preserved : goal.loop-label-preserved
loop-label-preserved g c =
    each_more (λ (m : List ℕ). (IsLabelOf (g.S.Store.graph c.args.store.now) m → ⊥) → ⊥) c.args.labels.now c.loop-label.label-index c.label-item.result c.loop-label-test.true c.label-item.is c.loop-label.invariant
    (λ p. let off = c.if-is_unknown.ensures.1 p in cc)

pub returns : goal.returns
returns g c = (
  λ h. absurd (false≢true h),
  λ s. absurd (each_all (λ (m : List ℕ). (IsLabelOf (g.S.Store.graph c.args.store.now) m → ⊥) → ⊥) c.args.labels.now c.loop-label.label-index c.loop-label-test.false c.loop-label.invariant s.item s.within s.holds),
)
