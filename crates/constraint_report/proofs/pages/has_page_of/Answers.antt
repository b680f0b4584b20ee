use Rattle.std.proofs.lemmas.Bool.{false≢true}
use Rattle.sd_value.specs.declared.Value.{Value}
use Rattle.constraint_spec.specs.Meets.{IsPageOf}
use Rattle.constraint_report.proofs.EachPage.{each_more, each_all}
use Rattle.constraint_report.proofs.pages.has_page_of.Goals as goal

pub loop-value-preserved : goal.loop-value-preserved
loop-value-preserved c =
    each_more (λ (v : Value). IsPageOf c.args.function.now v → ⊥) c.args.values.now c.loop-value.value-index c.value-item.result c.loop-value-test.true c.value-item.is c.loop-value.invariant
    (λ p. let off = c.if-is_page_of.ensures.1 p in cc)

pub returns : goal.returns
returns c = (
  λ h. absurd (false≢true h),
  λ s. absurd (each_all (λ (v : Value). IsPageOf c.args.function.now v → ⊥) c.args.values.now c.loop-value.value-index c.loop-value-test.false c.loop-value.invariant s.item s.within s.holds),
)
