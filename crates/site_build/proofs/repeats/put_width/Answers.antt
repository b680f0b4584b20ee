use Rattle.struql_ast.specs.Reading.{collect_of}
use Rattle.site_build.proofs.RowReads.{asks_put}
use Rattle.site_build.proofs.repeats.put_width.Goals as goal

pub returns : goal.returns
returns c = asks_put c.args.variables.now (collect_of c.args.collect.now) _ c.target_width.ensures
