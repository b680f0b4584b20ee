use Rattle.std.proofs.Common.{subst, List}
use Rattle.graph_spec.specs.Statement.{Statement}
use Rattle.refute_site.specs.Adding.{AddsAll}
use Rattle.refute_site.proofs.Tried.{nothing_beside, second_beside}
use Rattle.refute_site.proofs.candidate.Candidate.add_beside.Goals as goal

pub returns-in-None : goal.returns-in-None
returns-in-None c = nothing_beside c.args.self.now c.args.builder.now c.in-None.is

pub returns-in-Some : goal.returns-in-Some
returns-in-Some c =
    subst (λ (l : List Statement). AddsAll l c.args.builder.now c.add_second.new.builder c.add_second.result) (second_beside c.args.self.now c.in-Some.source c.in-Some.is) c.add_second.ensures
