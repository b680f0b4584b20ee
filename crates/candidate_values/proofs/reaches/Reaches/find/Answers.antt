use Rattle.std.proofs.Common.{◌≡◌, Some, List}
use Rattle.std.specs.BTreeMap.{get}
use Rattle.graph_spec.specs.DataGraph.{DataGraph}
use Rattle.walks.specs.declared.direction.Direction.TheVariants.{Onward, Backward}
use Rattle.condition_tests.specs.declared.literal.Goal.{Goal}
use Rattle.candidate_values.specs.Kept.{key_cmp, IsReach, IsKept}
use Rattle.candidate_values.proofs.Kept.{if_some}
use Rattle.candidate_values.proofs.reaches.Reaches.find.Goals as goal

pub returns-in-Onward : goal.returns-in-Onward
returns-in-Onward c =
    rw c.in-Onward.is
    (if_some c.listed.result (λ values. get key_cmp c.args.self.now.onward c.args.key.now ≡ Some values.now)
    (λ values. (G : DataGraph) (goals : List Goal) → IsKept G goals c.args.self.now → IsReach G goals Onward c.args.key.now values.now.items)
    (λ values h G goals kept. kept.onward c.args.key.now values.now h) c.listed.ensures)

pub returns-in-Backward : goal.returns-in-Backward
returns-in-Backward c =
    rw c.in-Backward.is
    (if_some c.listed-in-Backward.result (λ values. get key_cmp c.args.self.now.backward c.args.key.now ≡ Some values.now)
    (λ values. (G : DataGraph) (goals : List Goal) → IsKept G goals c.args.self.now → IsReach G goals Backward c.args.key.now values.now.items)
    (λ values h G goals kept. kept.backward c.args.key.now values.now h) c.listed-in-Backward.ensures)
