use Rattle.site_build.proofs.Site.{terms_gained}
use Rattle.site_build.proofs.contents.add_terms.Goals as goal

pub add_link_terms-requires : goal.add_link_terms-requires
add_link_terms-requires c = λ p s. c.in_ok-add_rows.ensures.gained p s

pub add_collect_terms-requires : goal.add_collect_terms-requires
add_collect_terms-requires c = λ p s. c.in_ok-add_link_terms.ensures.kept p (c.in_ok-add_rows.ensures.gained p s)

pub returns : goal.returns
returns c =
    terms_gained c.args.block.now c.args.rows.now c.variables-variables.result.now c.as_slice-creates.result.now c.as_slice.result.now c.as_slice-2.result.now _ _ _ _
    c.variables-variables.ensures c.as_slice-creates.ensures.value c.as_slice.ensures.value c.as_slice-2.ensures.value
    c.in_ok-add_rows.ensures c.in_ok-add_link_terms.ensures c.in_ok-add_collect_terms.ensures
