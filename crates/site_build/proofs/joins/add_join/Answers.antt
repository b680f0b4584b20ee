use Rattle.query_spec.specs.Rows.{value_in}
use Rattle.struql_ast.specs.Reading.{target_of, link_of}
use Rattle.site_spec.specs.Site.{ended}
use Rattle.site_build.specs.Materialised.{IsJoin}
use Rattle.site_build.proofs.Growing.{gains_one}
use Rattle.site_build.proofs.Under.{join_same}
use Rattle.site_build.proofs.joins.add_join.Goals as goal

pub returns : goal.returns
returns c =
    gains_one (IsJoin (ended (link_of c.args.link.now) (target_of c.args.target.now)) (value_in c.args.variables.now c.args.row.now)) c.args.made.now.keys _ c.in_ok-one.one c.in_ok-one.ensures
    (join_same (ended (link_of c.args.link.now) (target_of c.args.target.now)) (value_in c.args.variables.now c.args.row.now)) c.in_ok-insert_one.ensures
