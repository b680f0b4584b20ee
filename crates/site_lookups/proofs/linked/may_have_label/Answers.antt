use Rattle.site_lookups.proofs.Labels.{quoted_may, variable_may}
use Rattle.site_lookups.proofs.Targets.{name_is}
use Rattle.struql_ast.specs.Reading.{label_of}
use Rattle.std.proofs.Common.{ap, refl}
use Rattle.site_lookups.proofs.linked.may_have_label.Goals as goal

pub returns-in-Quoted : goal.returns-in-Quoted
returns-in-Quoted c =
    quoted_may c.in-Quoted.quoted c.args.label.now (label_of c.args.written.now) c.eq.result (ap label_of c.in-Quoted.is) (name_is c.args.label.now c.in-Quoted.quoted c.eq.result c.eq.ensures)

pub returns-in-Variable : goal.returns-in-Variable
returns-in-Variable c = ((λ t. variable_may c.in-Variable.field-0 c.args.label.now (label_of c.args.written.now) (ap label_of c.in-Variable.is)), (λ a. refl))
