use Rattle.std.proofs.Common.{subst, List}
use Rattle.std.specs.Prelude.{Contains, IfOk}
use Rattle.std.proofs.Common.{sym, refl}
use Rattle.std.proofs.lemmas.Result.{IfOk-weaker}
use Rattle.sd_value.specs.Order.{bytes_cmp}
use Rattle.sd_value.specs.OrderLaws.{bytes_cmp-total, bytes_cmp-exact}
use Rattle.graph_spec.specs.declared.Edge.{Edge}
use Rattle.graph_spec.specs.Orders.{edge_cmp}
use Rattle.live_layers.proofs.GroupLaws.{key_there}
use Rattle.live_layers.proofs.edges.Edges.labels.Goals as goal

pub returns : goal.returns
returns c = IfOk-weaker c.keys.result _ _ (λ found is e m. subst (λ ks. Contains ks e.label) (sym is)
    (key_there bytes_cmp edge_cmp (λ (e : Edge). e.label) c.self.inside.all.keys c.self.inside.orders.by_label e.label bytes_cmp-total bytes_cmp-exact e
    ((c.self.invariant.by_label e.label e).1 (subst (λ (es : List Edge). Contains es e) (sym c.self.view_is) m, refl))))
    c.keys.ensures
