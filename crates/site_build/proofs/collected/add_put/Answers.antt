use Rattle.query_spec.specs.Rows.{value_in}
use Rattle.struql_ast.specs.Reading.{collect_of}
use Rattle.site_build.specs.Materialised.{IsPutUnder}
use Rattle.site_build.proofs.Growing.{gains_one}
use Rattle.site_build.proofs.Under.{put_same}
use Rattle.site_build.proofs.collected.add_put.Goals as goal

pub returns : goal.returns
returns c =
    gains_one (IsPutUnder (collect_of c.args.collect.now) (value_in c.args.variables.now c.args.row.now)) c.args.made.now.keys _ c.in_ok-one.one c.in_ok-one.ensures
    (put_same (collect_of c.args.collect.now) (value_in c.args.variables.now c.args.row.now)) c.in_ok-insert_one.ensures
