use Rattle.std.proofs.Common.{◌≡◌, ◌+◌, ◌*◌, length, map}
use Rattle.grammar.specs.Reading.{repeat, with_front}
use Rattle.template_reader.specs.Template.{single}
use Rattle.template_reader.specs.Reading.{is_part, read_part, read_block_at}
use Rattle.template_reader.proofs.body.+body.Given as goal

abbrev pub decreases-body_at : goal.decreases-body_at
decreases-body_at l = 16 * l.depth + 8

abbrev pub decreases-parts_at : goal.decreases-parts_at
decreases-parts_at l = 16 * l.depth + 7

abbrev pub decreases-part_at : goal.decreases-part_at
decreases-part_at l = 16 * l.depth + 6

abbrev pub decreases-block_at : goal.decreases-block_at
decreases-block_at l = 16 * l.depth + 5

abbrev pub decreases-tag_at : goal.decreases-tag_at
decreases-tag_at l = 16 * l.depth + 14

abbrev pub decreases-choice_at : goal.decreases-choice_at
decreases-choice_at l = 16 * l.depth + 13

abbrev pub decreases-choice_rest_at : goal.decreases-choice_rest_at
decreases-choice_rest_at l = 16 * l.depth + 12

abbrev pub decreases-tested_at : goal.decreases-tested_at
decreases-tested_at l = 16 * l.depth + 11

abbrev pub decreases-branches_at : goal.decreases-branches_at
decreases-branches_at l = 16 * l.depth + 10

abbrev pub decreases-ending_at : goal.decreases-ending_at
decreases-ending_at l = 16 * l.depth + 9

abbrev pub decreases-repeat_at : goal.decreases-repeat_at
decreases-repeat_at l = 16 * l.depth + 12

abbrev pub decreases-repeat_rest_at : goal.decreases-repeat_rest_at
decreases-repeat_rest_at l = 16 * l.depth + 11

abbrev pub decreases-repeated_at : goal.decreases-repeated_at
decreases-repeated_at l = 16 * l.depth + 10

abbrev pub invariant-parts_at-list : goal.invariant-parts_at-list
invariant-parts_at-list l = with_front (map single l.parts.items) (repeat is_part (read_part (read_block_at l.depth) l.scope) l.rest) ≡ repeat is_part (read_part (read_block_at l.depth) l.scope) l.items

abbrev pub decreases-parts_at-list : goal.decreases-parts_at-list
decreases-parts_at-list l = length l.rest
