use Rattle.std.proofs.Common.{subst, sym}
use Rattle.std.specs.Prelude.{Contains}
use Rattle.sd_value.specs.AscendingLaws.{listed_as}
use Rattle.edge_queries.specs.Contents.{values-sound, values-complete}
use Rattle.list_store.proofs.contents.values_of.Goals as goal

pub returns : goal.returns
returns c =
    let all = c.in_ok-values.ensures.values in
    listed_as c.sort_and_dedup.ensures
    (λ v m. values-sound c.args.graph.now c.in_ok-values.ensures.well_formed v (subst (λ vs. Contains vs v) all m))
    (λ v h. subst (λ vs. Contains vs v) (sym all) (values-complete c.args.graph.now v h))
