use Rattle.std.proofs.Common.{◌∙◌}
use Rattle.inclusion.proofs.Numbers.{not_spelled}
use Rattle.inclusion.proofs.twins.is_number.Goals as goal

pub returns-in-None : goal.returns-in-None
returns-in-None c = not_spelled c.args.text.now (λ n short is. c.in-None.ensures n short (c.bytes.ensures ∙ is))
