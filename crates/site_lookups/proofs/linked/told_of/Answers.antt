use Rattle.std.proofs.Common.{◌≡◌, ◌∷◌, ◌++◌, [], List, arith, subst}
use Rattle.std.specs.Prelude.{Contains, ◌↔◌}
use Rattle.std.specs.Option.{MatchOption}
use Rattle.std.proofs.lemmas.Grind.{common_steps}
use Rattle.sd_value.specs.Ascending.{ListsExactly}
use Rattle.sd_value.specs.Order.{value_cmp}
use Rattle.sd_value.specs.declared.Value.{Value}
use Rattle.struql_ast.specs.Reading.{aggregate_of}
use Rattle.site_spec.specs.Site.{IsToldOf}
use Rattle.aggregate_values.specs.Told.{TellsOf}
use Rattle.site_lookups.proofs.Sums.{one_told, none_told}
use Rattle.site_lookups.proofs.linked.told_of.Goals as goal
use Rattle.site_lookups.proofs.linked.told_of.Goals.{in-Some+in_ok-push, in_default}

pub returns : goal.returns
returns c =
    let a = aggregate_of c.args.aggregate.now in
    let P = Contains c.args.parts.items in
    let parts = c.as_slice.result.now in
    let exact : ListsExactly value_cmp (Contains c.args.parts.items) c.as_slice.result.now = rw c.as_slice.ensures.value c.sort_and_dedup.ensures in
    elim c.match-branch-2.branch [
      | in-Some+in_ok-push w ↦
          let same : c.match-branch-2.ends.items ≡ w.in-Some.end ∷ [] = grind (arith, common_steps) in
          λ v. rw same (one_told a P parts exact c.in_ok-end.field-0 w.in-Some.end w.in-Some.is c.in_ok-end.ensures v)
      | in_default w ↦
          let same : c.match-branch-2.ends.items ≡ [] = grind (arith, common_steps) in
          λ v. rw same (none_told a P parts exact c.in_ok-end.field-0 w.in_default.is c.in_ok-end.ensures v)
    ]
