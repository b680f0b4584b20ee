use Rattle.std.proofs.Common.{sym, subst}
use Rattle.graph_order.proofs.Keyed.{no_key, some_label, IsNoNode}
use Rattle.graph_order.proofs.keys.Known.of.Goals as goal

pub of_datum-requires-clause-labels : goal.of_datum-requires-clause-labels
of_datum-requires-clause-labels c = some_label c.args.self.now.word.now c.is_empty.result c.is_empty.ensures c.if-is_empty.false

pub returns-in-Page : goal.returns-in-Page
returns-in-Page c =
    let k = c.args.self.now in
    no_key k.by_fold k.graph.now k.word.now c.args.value.now
    (some_label k.word.now c.is_empty.result c.is_empty.ensures c.if-is_empty.false) (subst IsNoNode (sym c.in-Page.is) tt)
