use Rattle.serde_json.specs.View.{members_view}
use Rattle.sd_graph.specs.StatingLaws.{Continues}
use Rattle.json_source.specs.Text.{collections_steps}
use Rattle.json_source.proofs.records.add_collections.Given as goal

abbrev pub invariant-loop-key : goal.invariant-loop-key
invariant-loop-key l =
    Continues l.fn.graph (collections_steps l.rules l.stem (members_view l.members.entries)) l.graph (collections_steps l.rules l.stem (members_view l.key-iterator))
