use Rattle.std.proofs.Common.{◌≡◌}
use Rattle.serde_json.specs.View.{members_view}
use Rattle.json_source.specs.Tables.{has_table}
use Rattle.json_source.proofs.tables.has_table.Given as goal

abbrev pub invariant-loop-key : goal.invariant-loop-key
invariant-loop-key l = has_table (members_view l.members.entries) ≡ has_table (members_view l._key-iterator)
