use Rattle.std.proofs.Common.{◌∙◌, sym}
use Rattle.std.specs.List.{list_any}
use Rattle.query_spec.specs.Mentions.{same_name}
use Rattle.struql_ast.specs.Reading.{condition_of}
use Rattle.counterexample_spec.specs.Trial.{given_by}
use Rattle.trial_size.proofs.Cut.{any_mapped}
use Rattle.trial_size.proofs.is_given.Goals as goal

pub returns : goal.returns
returns c = c.some_gives.ensures ∙ sym (any_mapped (λ k. list_any (same_name c.args.name.now) (given_by k)) condition_of c.args.conditions.now)
