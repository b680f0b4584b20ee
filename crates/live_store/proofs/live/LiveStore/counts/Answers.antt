use Rattle.std.proofs.Common.{subst}
use Rattle.sd_graph.specs.Statement.{Building}
use Rattle.graph_spec.specs.DataGraph.{IsWellFormed}
use Rattle.live_store.specs.Live.{GraphIsTold}
use Rattle.live_store.proofs.Small.{small_told}
use Rattle.live_store.proofs.live.LiveStore.counts.Goals as goal

pub returns : goal.returns
returns c = record {
  told = subst (λ (b : Building). GraphIsTold b.graph c.self.inside.told) c.self.view_is c.self.invariant.reported;
  small = small_told _ c.self.inside.told c.self.invariant.within c.self.invariant.reported;
  well_formed = subst (λ (b : Building). IsWellFormed b.graph) c.self.view_is c.self.invariant.layers.whole;
}
