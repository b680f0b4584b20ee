use Rattle.std.proofs.Common.{◌≡◌}
use Rattle.serde_json.specs.View.{members_view}
use Rattle.json_source.specs.Tables.{are_empty_lists}
use Rattle.json_source.proofs.tables.are_empty_lists.Given as goal

abbrev pub invariant-loop-key : goal.invariant-loop-key
invariant-loop-key l = are_empty_lists (members_view l.members.entries) ≡ are_empty_lists (members_view l._key-iterator)
