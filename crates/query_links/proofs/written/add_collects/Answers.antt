use Rattle.std.proofs.Common.{arith, ap, ◌∙◌, ◌++◌}
use Rattle.site_spec.specs.Site.{target_terms}
use Rattle.struql_ast.specs.Reading.{collect_of}
use Rattle.query_links.specs.Mentions.{plain_terms, of_function}
use Rattle.query_links.proofs.Lists.{gathered_all}
use Rattle.query_links.proofs.Named.{collects_named}
use Rattle.query_links.proofs.written.add_collects.Goals as goal

pub returns : goal.returns
returns c =
    gathered_all (λ x. of_function c.args.function.now (target_terms (collect_of x).target)) (plain_terms c.args.found.now.items) (plain_terms c.loop-collect.found.items) c.args.collects.now c.loop-collect.collect-index (omega arith) c.loop-collect.invariant
    ∙ ap (λ l. plain_terms c.args.found.now.items ++ l) (collects_named c.args.function.now c.args.collects.now)
