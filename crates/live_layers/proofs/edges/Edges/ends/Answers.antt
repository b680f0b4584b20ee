use Rattle.std.proofs.Common.{subst, List}
use Rattle.std.specs.Prelude.{Contains, IfOk}
use Rattle.std.proofs.Common.{sym, refl}
use Rattle.std.proofs.lemmas.Result.{IfOk-weaker}
use Rattle.sd_value.specs.Order.{value_cmp}
use Rattle.sd_value.specs.OrderLaws.{value_cmp-total, value_cmp-exact}
use Rattle.graph_spec.specs.declared.Edge.{Edge}
use Rattle.graph_spec.specs.Orders.{edge_cmp}
use Rattle.live_layers.proofs.GroupLaws.{key_there}
use Rattle.live_layers.proofs.edges.Edges.ends.Goals as goal

pub returns : goal.returns
returns c = IfOk-weaker c.keys.result _ _ (λ found is e m. subst (λ ks. Contains ks e.to) (sym is)
    (key_there value_cmp edge_cmp (λ (e : Edge). e.to) c.self.inside.all.keys c.self.inside.orders.by_end e.to value_cmp-total value_cmp-exact e
    ((c.self.invariant.by_end e.to e).1 (subst (λ (es : List Edge). Contains es e) (sym c.self.view_is) m, refl))))
    c.keys.ensures
