use Rattle.std.proofs.Common.{◌≡◌, subst, length, ◌<◌}
use Rattle.std.specs.Prelude.{Some, List}
use Rattle.sd_value.specs.declared.Value.TheVariants.{Data}
use Rattle.query_spec.specs.Holds.{operand_value}
use Rattle.query_spec.specs.Rows.{value_in}
use Rattle.struql_ast.specs.declared.Operand.{Operand as Written}
use Rattle.std.proofs.Common.{get_or, ℕ}
use Rattle.skolem.proofs.Args.{zipped_none, zipped_more, no_instance}
use Rattle.skolem.proofs.under.instance.Goals as goal

pub loop-operand-init : goal.loop-operand-init
loop-operand-init c = rw c.in_ok-args.ensures.items (zipped_none (λ operand d. operand_value (value_in c.args.variables.now c.args.row.now) operand ≡ Some (Data d)))

pub loop-operand-preserved : goal.loop-operand-preserved
loop-operand-preserved c =
    rw c.in_ok-push.ensures.items
    (zipped_more (λ operand d. operand_value (value_in c.args.variables.now c.args.row.now) operand ≡ Some (Data d)) c.as_slice-written.result.now c.loop-operand.args.items c.loop-operand.operand-index c.operand-item.result c.in_ok-copy.field-0
    c.loop-operand-test.true c.operand-item.is c.loop-operand.invariant
    (rw c.in_ok-copy.ensures c.in-Some.ensures))

at_item : (xs ys : List Written) (i : ℕ) (x : Written) → xs ≡ ys → i < length xs → x ≡ get_or xs i x → (i < length ys) × (x ≡ get_or ys i x)
at_item xs ys i x e l is = subst (λ (zs : List Written). (i < length zs) × (x ≡ get_or zs i x)) e (l, is)

pub returns-in_default : goal.returns-in_default
returns-in_default c =
    let at = at_item c.as_slice-written.result.now c.args.skolem_term.now.args.items c.loop-operand.operand-index c.operand-item.result c.as_slice-written.ensures.value c.loop-operand-test.true c.operand-item.is in
    no_instance c.args.variables.now c.args.row.now c.args.skolem_term.now c.loop-operand.operand-index c.operand-item.result at.0 at.1 c.in_default.ensures
