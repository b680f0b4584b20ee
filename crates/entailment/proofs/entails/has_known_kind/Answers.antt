use Rattle.std.proofs.Common.{◌∙◌, sym}
use Rattle.struql_ast.specs.Reading.{condition_of}
use Rattle.std.specs.Prelude.{◌&&◌}
use Rattle.query_spec.specs.Query.{variable}
use Rattle.constraint_recheck.specs.Entails.{fixes, has_kind, without_twin}
use Rattle.entailment.proofs.Lists.{any_mapped}
use Rattle.entailment.proofs.entails.has_known_kind.Goals as goal

pub returns : goal.returns
returns g c = c.some_kind.ensures ∙ sym (any_mapped (fixes (λ k. has_kind c.args.test k && without_twin (g.J.Judge.tests c.args.judge.now) c.args.version k) (variable c.args.name.now)) condition_of c.args.conditions.now)
