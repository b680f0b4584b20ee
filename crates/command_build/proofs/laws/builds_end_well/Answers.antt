use Rattle.command_build.proofs.Law.{build_ends_well}
use Rattle.command_build.proofs.laws.builds_end_well.Goals as goal

pub returns : goal.returns
returns c = build_ends_well
