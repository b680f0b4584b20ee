use Rattle.struql_ast.specs.Reading.{target_of}
use Rattle.site_spec.specs.Site.{target_terms}
use Rattle.site_build.proofs.Written.{names_both}
use Rattle.site_build.proofs.terms.add_ends.Goals as goal

pub add_target-requires : goal.add_target-requires
add_target-requires c = c.requires

pub add_target-requires-2 : goal.add_target-requires-2
add_target-requires-2 c = λ p s. c.in_ok-add_target.ensures.kept p (c.requires p s)

pub returns : goal.returns
returns c =
    names_both c.args.variables.now c.args.rows.now (target_terms (target_of c.args.link.now.source)) (target_terms (target_of c.args.link.now.target)) _ _ _
    c.in_ok-add_target.ensures c.in_ok-add_target-2.ensures
