use Rattle.std.proofs.Common.{◌≡◌, length}
use Rattle.grammar.specs.Reading.{iterate}
use Rattle.struql_parse.specs.Blocks.{no_groups}
use Rattle.struql_parse.specs.Found.{groups_found}
use Rattle.struql_parse.specs.Reading.{begins_item, read_item_step}
use Rattle.struql_parse.proofs.query.items_at.Given as goal

abbrev pub invariant-list : goal.invariant-list
invariant-list l = iterate begins_item (read_item_step l.fn.version) (groups_found l.groups) l.rest ≡ iterate begins_item (read_item_step l.fn.version) no_groups l.tokens

abbrev pub decreases-list : goal.decreases-list
decreases-list l = length l.rest
