use Rattle.std.proofs.Common.{◌≡◌, ap, ◌∙◌, subst, sym}
use Rattle.graph_spec.specs.DataGraph.{DataGraph, node, IsWellFormed}
use Rattle.std.specs.Prelude.{Contains}
use Rattle.sd_value.specs.AscendingLaws.{listed_as}
use Rattle.list_lookup.specs.Picked.{picked}
use Rattle.edge_queries.specs.Places.{at_end_label}
use Rattle.edge_queries.specs.Listed.{picks-incoming_by}
use Rattle.list_store.proofs.ListStoreStore.incoming_by.Goals as goal

pub returns : goal.returns
returns c =
    let same = c.edges.ensures.value ∙ ap (λ (G : DataGraph). G.edges) c.self.view_is in
    let well = subst IsWellFormed c.self.view_is c.edges.ensures.well_formed in
    let all : c.in_ok-starts.starts.items ≡ picked (at_end_label c.args.to.now c.args.label.now) (λ e. node e.from) c.args.self.now.edges = c.in_ok-starts.ensures ∙ ap (picked (at_end_label c.args.to.now c.args.label.now) (λ e. node e.from)) same in
    listed_as c.sort_and_dedup.ensures
    (λ x m. (picks-incoming_by c.args.self.now well c.args.to.now c.args.label.now x).0 (subst (λ xs. Contains xs x) all m))
    (λ x h. subst (λ xs. Contains xs x) (sym all) ((picks-incoming_by c.args.self.now well c.args.to.now c.args.label.now x).1 h))
