use Rattle.constraints.proofs.Lookup.{names_placed}
use Rattle.constraints.proofs.checks.fault_of.Goals as goal

pub part-named-requires : goal.part-named-requires
part-named-requires c = names_placed c.args.functions.now c.args.word.now.text c.requires
