use Rattle.std.proofs.Common.{subst}
use Rattle.sd_value.specs.Ascending.{ListsExactly}
use Rattle.query_spec.specs.Rows.{row_cmp, IsRow}
use Rattle.std.proofs.Common.{sym}
use Rattle.site_build.proofs.Site.{terms_of_block, links_of_block, puts_of_block}
use Rattle.site_build.proofs.contents.add_block.Goals as goal

pub returns-clause-adds : goal.returns-clause-adds
returns-clause-adds g c =
    let G = g.A.Asker.graph c.args.asker.now in
    let exact = subst (ListsExactly row_cmp (IsRow G c.args.block.now.chain)) (sym c.as_slice-rows.ensures.value) c.in_ok-rows.ensures.rows in
    record {
      terms = terms_of_block G c.args.block.now c.as_slice-rows.result.now _ _ exact c.in_ok-add_terms.ensures;
      links = links_of_block G c.args.block.now c.as_slice-rows.result.now _ _ exact c.in_ok-add_links.ensures;
      puts = puts_of_block G c.args.block.now c.as_slice-rows.result.now _ _ exact c.in_ok-add_puts.ensures;
    }
