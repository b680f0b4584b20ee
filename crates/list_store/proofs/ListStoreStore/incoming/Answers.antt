use Rattle.std.proofs.Common.{◌≡◌, ap, ◌∙◌, subst, sym}
use Rattle.graph_spec.specs.DataGraph.{DataGraph, IsWellFormed}
use Rattle.std.specs.Prelude.{Contains}
use Rattle.sd_value.specs.AscendingLaws.{listed_as}
use Rattle.list_lookup.specs.Picked.{picked}
use Rattle.edge_queries.specs.Places.{at_end, step_to}
use Rattle.edge_queries.specs.Listed.{picks-incoming}
use Rattle.list_store.proofs.ListStoreStore.incoming.Goals as goal

pub returns : goal.returns
returns c =
    let same = c.edges.ensures.value ∙ ap (λ (G : DataGraph). G.edges) c.self.view_is in
    let well = subst IsWellFormed c.self.view_is c.edges.ensures.well_formed in
    let all : c.in_ok-steps.steps.items ≡ picked (at_end c.args.to.now) (step_to) c.args.self.now.edges = c.in_ok-steps.ensures ∙ ap (picked (at_end c.args.to.now) (step_to)) same in
    listed_as c.sort_and_dedup.ensures
    (λ x m. (picks-incoming c.args.self.now well c.args.to.now x).0 (subst (λ xs. Contains xs x) all m))
    (λ x h. subst (λ xs. Contains xs x) (sym all) ((picks-incoming c.args.self.now well c.args.to.now x).1 h))
