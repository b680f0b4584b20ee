use Rattle.command_replay.proofs.Law.{replay_ends_well}
use Rattle.command_replay.proofs.laws.replays_end_well.Goals as goal

pub returns : goal.returns
returns c = replay_ends_well
