use Rattle.graph_spec.specs.DataGraph.{IsLabelOf}
use Rattle.site_lint.proofs.NameLists.{turned}
use Rattle.site_lint.proofs.lookups.is_unknown.Goals as goal

pub returns : goal.returns
returns g c = turned c.is_label.result (IsLabelOf (g.S.Store.graph c.args.store.now) c.args.label.now) c.is_label.ensures
