use Rattle.std.proofs.Common.{subst, sym}
use Rattle.std.specs.Prelude.{Contains}
use Rattle.sd_value.specs.AscendingLaws.{listed_as}
use Rattle.edge_queries.specs.Contents.{labels-sound, labels-complete}
use Rattle.list_store.proofs.contents.labels_of.Goals as goal

pub returns : goal.returns
returns c =
    let all = c.in_ok-labels.ensures in
    listed_as c.sort_and_dedup.ensures
    (λ l m. labels-sound c.args.graph.now l (subst (λ ls. Contains ls l) all m))
    (λ l h. subst (λ ls. Contains ls l) (sym all) (labels-complete c.args.graph.now l h))
