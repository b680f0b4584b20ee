use Rattle.trial_site.proofs.Refused.{never_other}
use Rattle.trial_site.proofs.texts.made_templates.Goals as goal

pub unreachable-requires : goal.unreachable-requires
unreachable-requires c =
    never_other c.read_templates.result c.in-Err.refusal c.in-Err.is c.in_default.not-NoMemory c.read_templates.ensures.exact
