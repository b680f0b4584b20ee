use Rattle.query_blocks.specs.Blocks.{scope_of}
use Rattle.site_spec.specs.Site.{scope_of as scope_of_query}
use Rattle.tests_certificates.proofs.Decided.{decided}
use Rattle.tests_certificates.proofs.recheck.Goals as goal

pub returns : goal.returns
returns c =
    decided c.in_ok-table.table (scope_of c.blocks-blocks.result.now) (scope_of_query c.args.query.now) c.args.constraint.now c.args.certificate.now c.in_ok-passes.passes
    c.in_ok-table.ensures c.blocks-blocks.ensures.scope c.in_ok-passes.ensures
