use Rattle.std.proofs.Common.{◌∙◌, ap}
use Rattle.std.specs.Prelude.{Some}
use Rattle.sd_value.specs.AscendingLaws.{one_list}
use Rattle.page_spec.specs.KeyLaws.{row_cmp_total}
use Rattle.render.specs.Rows.{first_rows}
use Rattle.render.proofs.rows.keep_first.Goals as goal

pub returns-in-Some : goal.returns-in-Some
returns-in-Some c = λ sorted exact.
    rw c.in-Some.is (c.truncate.ensures.items ∙ ap (first_rows (Some c.in-Some.limit)) (one_list row_cmp_total _ _ _ c.sort_and_dedup.ensures exact))

pub returns-in_default : goal.returns-in_default
returns-in_default c = λ sorted exact.
    rw c.in_default.is (one_list row_cmp_total _ _ _ c.sort_and_dedup.ensures exact)
