use Rattle.std.proofs.Common.{subst, List}
use Rattle.query_spec.specs.Query.{Operand}
use Rattle.counterexample_spec.specs.Values.{second_copy}
use Rattle.counterexample_spec.specs.Frozen.{stated}
use Rattle.refute_site.specs.Adding.{AddsAll}
use Rattle.refute_site.specs.Candidates.{in_copy}
use Rattle.refute_site.proofs.candidate.Candidate.add_second.Goals as goal

pub returns : goal.returns
returns c =
    subst (λ (l : List Operand). AddsAll (stated (in_copy c.args.self.now (second_copy l))) c.args.builder.now c.add.new.builder c.add.result) c.arguments.ensures c.add.ensures
