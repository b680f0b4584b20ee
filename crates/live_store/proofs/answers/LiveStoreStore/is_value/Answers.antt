use Rattle.std.proofs.lemmas.Bool.{ltb-true, lt-ltb}
use Rattle.index_store.proofs.ValueLaws.{reached_values}
use Rattle.live_store.proofs.answers.LiveStoreStore.is_value.Goals as goal

pub returns-else-is_node : goal.returns-else-is_node
returns-else-is_node c =
    let reached = reached_values c.args.self.now.graph c.is_node.ensures.well_formed c.args.value.now
    (λ h. let t = c.is_node.ensures.is.1 h in let f = c.if-is_node.false in cc)
    c.degree_incoming.result c.degree_incoming.ensures in
    (λ t. reached.0 (ltb-true 0 c.degree_incoming.result t), λ is. lt-ltb 0 c.degree_incoming.result (reached.1 is))
