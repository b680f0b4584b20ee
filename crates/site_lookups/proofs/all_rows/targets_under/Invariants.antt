use Rattle.std.proofs.Common.{take}
use Rattle.query_spec.specs.Rows.{value_in}
use Rattle.struql_ast.specs.Reading.{target_of}
use Rattle.site_spec.specs.Site.{IsTargetUnder}
use Rattle.sd_value.specs.Gathered.{Gathered}
use Rattle.site_lookups.proofs.all_rows.targets_under.Given as goal

abbrev pub invariant-loop-row : goal.invariant-loop-row
invariant-loop-row l = Gathered (λ row v. IsTargetUnder (value_in l.variables row) (target_of l.target) v) (take l.row-index l.rows) l.values.items
