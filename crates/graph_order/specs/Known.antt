-- What is known of the keys of a graph's nodes.
use Rattle.graph_order.specs.Keys.{AreKeys}
use Rattle.graph_order.specs.declared.keys.Known.{Known}

-- they are the keys by its word
abbrev pub IsKnown : Known → Type 0
IsKnown k = AreKeys k.by_fold k.graph.now k.word.now k.keys.items
