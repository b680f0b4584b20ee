use Rattle.site_build.proofs.Site.{links_gained}
use Rattle.site_build.proofs.contents.add_links.Goals as goal

pub returns : goal.returns
returns c =
    links_gained c.args.block.now c.args.rows.now c.variables-variables.result.now c.as_slice-written.result.now _ _ _
    c.variables-variables.ensures c.as_slice-written.ensures.value c.in_ok-add_rows.ensures c.in_ok-add_sums.ensures
