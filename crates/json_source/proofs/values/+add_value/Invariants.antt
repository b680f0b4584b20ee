use Rattle.std.proofs.Common.{◌≡◌, drop}
use Rattle.serde_json.specs.View.{items_view, members_view}
use Rattle.sd_graph.specs.StatingLaws.{Continues}
use Rattle.json_source.specs.Text.{items_steps, members_steps}
use Rattle.json_source.proofs.values.+add_value.Given as goal

abbrev pub invariant-add_items-loop-item : goal.invariant-add_items-loop-item
invariant-add_items-loop-item l =
    (l.index ≡ l.item-index)
    × Continues l.fn.graph (items_steps l.rules l.at l.node l.label l.child 0 (items_view l.item-items)) l.graph
    (items_steps l.rules l.at l.node l.label l.child l.item-index (items_view (drop l.item-index l.item-items)))

abbrev pub invariant-add_members-loop-key : goal.invariant-add_members-loop-key
invariant-add_members-loop-key l =
    Continues l.fn.graph (members_steps l.rules l.at l.node (members_view l.members.entries)) l.graph (members_steps l.rules l.at l.node (members_view l.key-iterator))
