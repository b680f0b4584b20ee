use Rattle.std.proofs.Common.{arith}
use Rattle.struql_ast.specs.Reading.{target_of, link_of}
use Rattle.site_spec.specs.Site.{ended}
use Rattle.site_build.proofs.RowReads.{asks_link}
use Rattle.site_build.proofs.repeats.link_width.Goals as goal

pub returns : goal.returns
returns c =
    asks_link c.args.variables.now (ended (link_of c.args.link.now) (target_of c.args.target.now)) c.target_width-from.result c.label_width-label.result c.target_width-to.result _ (omega arith) (omega arith) (omega arith)
    c.target_width-from.ensures c.label_width-label.ensures c.target_width-to.ensures
