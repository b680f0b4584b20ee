use Rattle.std.proofs.Common.{take}
use Rattle.std.specs.Prelude.{◌≡◌, Some}
use Rattle.sd_value.specs.declared.Value.TheVariants.{Data}
use Rattle.query_spec.specs.Holds.{operand_value}
use Rattle.query_spec.specs.Rows.{value_in}
use Rattle.skolem.proofs.Args.{IsZipped}
use Rattle.skolem.proofs.under.instance.Given as goal

abbrev pub invariant-loop-operand : goal.invariant-loop-operand
invariant-loop-operand l = IsZipped (λ operand d. operand_value (value_in l.variables l.row) operand ≡ Some (Data d)) (take l.operand-index l.written) l.args.items
