use Rattle.std.proofs.Common.{map, subst}
use Rattle.std.specs.Prelude.{Contains, List}
use Rattle.sd_value.specs.Ascending.{ListsExactly}
use Rattle.query_blocks.specs.Blocks.{body_of}
use Rattle.schema.specs.declared.SchemaFunction.{SchemaFunction}
use Rattle.schema.specs.Orders.{function_cmp}
use Rattle.schema.proofs.Created.{functions_listed}
use Rattle.schema.proofs.functions.functions_of.Goals as goal

pub returns : goal.returns
returns c =
    functions_listed (map body_of c.args.blocks.now) c.in_ok-found.found.items c.sort_and_dedup.new.items.items c.in_ok-found.ensures c.sort_and_dedup.ensures
