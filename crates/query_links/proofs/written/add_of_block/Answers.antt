use Rattle.std.proofs.Common.{◌≡◌, ap, ◌∙◌, ◌++◌}
use Rattle.std.specs.Prelude.{map, filter}
use Rattle.query_spec.specs.Mentions.{same_name}
use Rattle.site_spec.specs.Site.{terms_of}
use Rattle.query_blocks.specs.Blocks.{body_of}
use Rattle.constraint_spec.specs.Placed.{Mention, body_mentions}
use Rattle.query_links.specs.Mentions.{plain_terms, mention_under, mention_of}
use Rattle.query_links.proofs.Lists.{on_ok}
use Rattle.query_links.proofs.Named.{under_named}
use Rattle.query_links.proofs.written.add_of_block.Goals as goal

pub returns-clause-written : goal.returns-clause-written
returns-clause-written c =
    let had = map mention_of c.args.found.now.items in
    let conditions = c.args.block.now.chain.conditions in
    on_ok c.add_mentions.result (map mention_of c.add_mentions.new.found.items ≡ had ++ map (mention_under conditions) (plain_terms c.deref.result.now))
    (map mention_of c.add_mentions.new.found.items ≡ had ++ filter (λ (m : Mention). same_name m.term.function c.args.function.now) (body_mentions (body_of c.args.block.now)))
    (λ e. e
    ∙ ap (λ l. had ++ l)
    (ap (λ l. map (mention_under conditions) (plain_terms l)) c.deref.ensures.value
    ∙ (ap (map (mention_under conditions)) c.in_ok-terms.ensures ∙ under_named c.args.function.now conditions (terms_of (body_of c.args.block.now)))))
    c.add_mentions.ensures.written
