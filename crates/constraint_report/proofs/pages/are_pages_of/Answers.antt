use Rattle.constraint_spec.specs.Meets.{IsPageOf}
use Rattle.constraint_report.proofs.EachPage.{each_more}
use Rattle.constraint_report.proofs.pages.are_pages_of.Goals as goal

pub loop-value-preserved : goal.loop-value-preserved
loop-value-preserved c =
    each_more (IsPageOf c.args.function.now) c.args.values.now c.loop-value.value-index c.value-item.result c.loop-value-test.true c.value-item.is c.loop-value.invariant
    (c.is_page_of.ensures.0 c.if-not-is_page_of.false)
