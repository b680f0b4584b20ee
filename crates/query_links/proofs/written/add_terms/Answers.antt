use Rattle.std.proofs.Common.{arith, ap, ◌∙◌, [], ◌∷◌, ◌++◌}
use Rattle.struql_ast.specs.Reading.{term_of}
use Rattle.query_links.specs.Mentions.{plain_terms, of_function}
use Rattle.query_links.proofs.Lists.{gathered_all}
use Rattle.query_links.proofs.Named.{terms_named}
use Rattle.query_links.proofs.written.add_terms.Goals as goal

pub returns : goal.returns
returns c =
    gathered_all (λ x. of_function c.args.function.now (term_of x ∷ [])) (plain_terms c.args.found.now.items) (plain_terms c.loop-term.found.items) c.args.terms.now c.loop-term.term-index (omega arith) c.loop-term.invariant
    ∙ ap (λ l. plain_terms c.args.found.now.items ++ l) (terms_named c.args.function.now c.args.terms.now)
