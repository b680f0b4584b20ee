use Rattle.std.proofs.Common.{subst, map, List, arith}
use Rattle.std.proofs.lemmas.List.{take_all}
use Rattle.std.specs.Prelude.{Contains}
use Rattle.std.specs.List.{flat_map}
use Rattle.query_spec.specs.Mentions.{operand_names}
use Rattle.struql_ast.specs.declared.Operand.{Operand}
use Rattle.struql_ast.specs.Reading.{operand_of}
use Rattle.site_lookups.proofs.SomeRows.{none_next}
use Rattle.site_lookups.proofs.wanted.is_in_any.Goals as goal

pub loop-operand-preserved : goal.loop-operand-preserved
loop-operand-preserved c =
    none_next c.args.operands.now c.loop-operand.operand-index c.operand-item.result c.args.variable.now.name c.loop-operand-test.true c.operand-item.is c.loop-operand.invariant
    (λ h. let yes = c.is_in.ensures h in let no = c.if-is_in.false in cc)

pub returns : goal.returns
returns c h =
    absurd (subst (λ (ws : List Operand). Contains (flat_map operand_names (map operand_of ws)) c.args.variable.now.name → ⊥) (take_all c.loop-operand.operand-index c.args.operands.now (omega (arith, c.loop-operand-test.false))) c.loop-operand.invariant h)
