use Rattle.template_tags.proofs.SettingParts.{none_left, some_left}
use Rattle.template_tags.proofs.expression.+settings.Goals as goal

pub settings_at-returns-then-turns-eq0 : goal.settings_at-returns-then-turns-eq0
settings_at-returns-then-turns-eq0 t c = rw (none_left c.args.turns c.args.settings c.args.items.now c.if-turns-eq0.true) c.close_at.ensures

pub settings_at-returns-else-turns-eq0 : goal.settings_at-returns-else-turns-eq0
settings_at-returns-else-turns-eq0 t c = rw (some_left c.args.turns c.args.settings c.args.items.now c.if-turns-eq0.false) c.further_at.ensures
