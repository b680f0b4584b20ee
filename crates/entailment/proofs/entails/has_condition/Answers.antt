use Rattle.std.proofs.Common.{◌∙◌, sym}
use Rattle.struql_ast.specs.Reading.{condition_of}
use Rattle.query_parts.specs.Same.{same_condition}
use Rattle.entailment.proofs.Lists.{any_mapped}
use Rattle.entailment.proofs.entails.has_condition.Goals as goal

pub returns : goal.returns
returns c = c.some_condition.ensures ∙ sym (any_mapped (λ d. same_condition d (condition_of c.args.condition.now)) condition_of c.args.conditions.now)
