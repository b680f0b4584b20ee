use Rattle.std.proofs.Common.{arith, ap, ◌∙◌, ◌++◌}
use Rattle.site_spec.specs.Site.{ends_of}
use Rattle.struql_ast.specs.Reading.{link_of}
use Rattle.query_links.specs.Mentions.{plain_terms, of_function}
use Rattle.query_links.proofs.Lists.{gathered_all}
use Rattle.query_links.proofs.Named.{links_named}
use Rattle.query_links.proofs.written.add_links.Goals as goal

pub returns : goal.returns
returns c =
    gathered_all (λ x. of_function c.args.function.now (ends_of (link_of x))) (plain_terms c.args.found.now.items) (plain_terms c.loop-link.found.items) c.args.links.now c.loop-link.link-index (omega arith) c.loop-link.invariant
    ∙ ap (λ l. plain_terms c.args.found.now.items ++ l) (links_named c.args.function.now c.args.links.now)
