use Rattle.sd_value.specs.declared.Value.TheVariants.{Page}
use Rattle.query_spec.specs.Rows.{value_in}
use Rattle.struql_ast.specs.Reading.{target_of}
use Rattle.site_spec.specs.Site.{IsTargetUnder}
use Rattle.site_build.proofs.Under.{at_none, at_some, page_alone}
use Rattle.site_build.proofs.joins.page_under.Goals as goal

pub returns-in_default : goal.returns-in_default
returns-in_default c = λ p. at_none (IsTargetUnder (value_in c.args.variables.now c.args.row.now) (target_of c.args.target.now)) c.in_ok-value.field-0 c.in_default.is c.in_ok-value.ensures (Page p)

pub returns : goal.returns
returns c =
    page_alone (value_in c.args.variables.now c.args.row.now) (target_of c.args.target.now) c.in-Some.value c.into_page.result c.into_page.ensures
    (at_some (IsTargetUnder (value_in c.args.variables.now c.args.row.now) (target_of c.args.target.now)) c.in_ok-value.field-0 c.in-Some.value c.in-Some.is c.in_ok-value.ensures)
