use Rattle.std.proofs.Common.{List, sym, subst, []}
use Rattle.std.proofs.lemmas.Result.{IfOk-weaker}
use Rattle.sd_value.specs.Names.{Name}
use Rattle.sd_value.specs.Order.{bytes_cmp}
use Rattle.sd_value.specs.Ascending.{ListsExactly}
use Rattle.graph_spec.specs.DataGraph.{IsLabelOf}
use Rattle.sd_graph.specs.Statement.{Building}
use Rattle.live_store.specs.Shift.{Pushed}
use Rattle.live_store.proofs.TouchedLaws.{labels_listed}
use Rattle.live_store.proofs.answers.LiveStoreStore.labels.Goals as goal

pub returns : goal.returns
returns c = IfOk-weaker c.shifted.result _ _
    (λ found is. subst (λ (b : Building). ListsExactly bytes_cmp (IsLabelOf b.graph) found.items) c.self.view_is
    (labels_listed c.self.inside.base c.self.inside.came c.self.inside.gone c.self.inside.nodes.keys _ c.self.invariant.layers
    c.in_ok-touched.touched.items c.in_ok-touched.ensures c.in_ok-base.base.items c.in_ok-now.now.items found.items
    c.in_ok-base.ensures
    (subst (λ (b : Building). Pushed (λ (l : Name). l) (IsLabelOf b.graph) c.in_ok-touched.touched.items []
    c.in_ok-now.now.items) (sym c.self.view_is)
    (subst (λ (ts : List Name). Pushed (λ (l : Name). l) (IsLabelOf c.args.self.now.graph) ts [] c.in_ok-now.now.items)
    c.as_slice.ensures.value c.in_ok-now.ensures)) is))
    c.shifted.ensures
