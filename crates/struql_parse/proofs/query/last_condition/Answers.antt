use Rattle.std.proofs.Common.{ap, ◌∙◌}
use Rattle.struql_ast.specs.Written.{condition_written}
use Rattle.struql_parse.specs.Blocks.{condition_span}
use Rattle.struql_parse.proofs.Last.{last_is}
use Rattle.struql_parse.proofs.query.last_condition.Goals as goal

pub returns-in-len1-up : goal.returns-in-len1-up
returns-in-len1-up c =
    c.condition_span.ensures ∙ ap (λ k. condition_span (condition_written k)) c.last-item.is
    ∙ last_is condition_span condition_written c.args.place c.args.items.now c.last-item.result c.in-len1-up.len_at_least
