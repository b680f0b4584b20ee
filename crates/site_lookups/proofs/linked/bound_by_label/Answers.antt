use Rattle.site_lookups.proofs.Labels.{quoted_same, quoted_is, variable_label}
use Rattle.struql_ast.specs.Reading.{label_of}
use Rattle.std.proofs.Common.{ap}
use Rattle.site_lookups.proofs.linked.bound_by_label.Goals as goal

pub returns-in_ok-bound-in-Variable : goal.returns-in_ok-bound-in-Variable
returns-in_ok-bound-in-Variable c =
    variable_label c.args.variables.now c.in-Variable.name c.args.label.now (label_of c.args.written.now) c.args.bound c.in_ok-bound-in-Variable.bound (ap label_of c.in-Variable.is) (rw (← c.in_ok-copy-in-Variable.ensures) c.in_ok-bound-in-Variable.ensures)

pub returns-in-Quoted : goal.returns-in-Quoted
returns-in-Quoted c =
    quoted_same c.args.variables.now c.in-Quoted.field-0 c.args.label.now (label_of c.args.written.now) c.args.bound (ap label_of c.in-Quoted.is) (quoted_is c.in-Quoted.field-0 c.args.label.now (label_of c.args.written.now) (ap label_of c.in-Quoted.is) c.requires.may_have)
