use Rattle.schema.proofs.Sorted.{sorted_is_placed}
use Rattle.schema.proofs.starting.links_from.Goals as goal

pub part-requires : goal.part-requires
part-requires c = sorted_is_placed c.args.function.now c.args.edges.now c.requires
