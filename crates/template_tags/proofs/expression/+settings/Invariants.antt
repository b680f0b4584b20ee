use Rattle.std.proofs.Common.{◌+◌, ◌*◌}
use Rattle.template_tags.proofs.expression.+settings.Given as goal

abbrev pub decreases-settings_at : goal.decreases-settings_at
decreases-settings_at l = 4 * l.turns

abbrev pub decreases-further_at : goal.decreases-further_at
decreases-further_at l = 4 * l.turns + 2

abbrev pub decreases-next_at : goal.decreases-next_at
decreases-next_at l = 4 * l.turns + 1
