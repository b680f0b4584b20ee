use Rattle.command_serve.proofs.Law.{serving_ends_well}
use Rattle.command_serve.proofs.laws.serving_ends_well.Goals as goal

pub returns : goal.returns
returns c = serving_ends_well
