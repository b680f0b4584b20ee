use Rattle.std.proofs.Common.{◌∙◌, ap, refl, take}
use Rattle.sd_value.specs.Members.{among_at}
use Rattle.sort_keys.specs.Keys.{lesser, key_cmp}
use Rattle.graph_order.proofs.Keyed.{least_next, least_to}
use Rattle.graph_order.proofs.keys.Known.least.Goals as goal

pub of-requires-clause-end : goal.of-requires-clause-end
of-requires-clause-end c =
    c.requires.edges c.edge-item.result
    (among_at c.args.edges.now c.loop-edge.edge-index c.edge-item.result c.edge-item.result c.loop-edge-test.true c.edge-item.is refl)

pub loop-edge-preserved : goal.loop-edge-preserved
loop-edge-preserved c =
    let k = c.args.self.now in
    c.lesser-least.ensures
    ∙ ap (λ o. lesser key_cmp o c.in_ok-key.key) c.loop-edge.invariant
    ∙ ap (lesser key_cmp (least_to k.by_fold k.graph.now k.word.now (take c.loop-edge.edge-index c.args.edges.now))) c.in_ok-key.ensures
    ∙ least_next k.by_fold k.graph.now k.word.now c.args.edges.now c.loop-edge.edge-index c.edge-item.result c.loop-edge-test.true c.edge-item.is
