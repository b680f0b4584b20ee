use Rattle.std.proofs.Common.{◌≡◌, drop}
use Rattle.serde_json.specs.View.{items_view}
use Rattle.sd_graph.specs.StatingLaws.{Continues}
use Rattle.json_source.specs.Text.{records_steps}
use Rattle.json_source.proofs.records.add_records.Given as goal

abbrev pub invariant-loop-item : goal.invariant-loop-item
invariant-loop-item l =
    (l.index ≡ l.item-index)
    × Continues l.fn.graph (records_steps l.rules l.at l.collection l.name 0 (items_view l.item-items)) l.graph
    (records_steps l.rules l.at l.collection l.name l.item-index (items_view (drop l.item-index l.item-items)))
