-- What a template's comparison says is what a query's says under version 1.
use Rattle.query_spec.specs.declared.Op.{Op}
use Rattle.query_spec.specs.declared.Op.TheVariants as op
use Rattle.tmpl.specs.declared.Cmp.{Cmp}
use Rattle.tmpl.specs.declared.Cmp.TheVariants.{Eq, Ne, Lt, Le, Gt, Ge}

-- the query's name of a template's comparison
abbrev pub op_of : Cmp → Op
op_of Eq = op.Eq
op_of Ne = op.Ne
op_of Lt = op.Lt
op_of Le = op.Le
op_of Gt = op.Gt
op_of Ge = op.Ge
