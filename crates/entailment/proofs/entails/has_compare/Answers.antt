use Rattle.std.proofs.Common.{◌∙◌, sym}
use Rattle.query_spec.specs.Query.{compare}
use Rattle.struql_ast.specs.Reading.{operand_of, condition_of}
use Rattle.query_parts.specs.Same.{same_condition}
use Rattle.entailment.proofs.Lists.{any_mapped}
use Rattle.entailment.proofs.entails.has_compare.Goals as goal

pub returns : goal.returns
returns c = c.some_compare.ensures ∙ sym (any_mapped (λ d. same_condition d (compare (operand_of c.args.one.now) c.args.by (operand_of c.args.other.now))) condition_of c.args.conditions.now)
