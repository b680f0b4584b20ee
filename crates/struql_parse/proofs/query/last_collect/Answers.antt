use Rattle.std.proofs.Common.{ap, ◌∙◌}
use Rattle.struql_ast.specs.Written.{collect_written}
use Rattle.struql_parse.proofs.Last.{last_is}
use Rattle.struql_parse.proofs.query.last_collect.Goals as goal

pub returns-in-len1-up : goal.returns-in-len1-up
returns-in-len1-up c = ap (λ t. t.span) c.last-item.is ∙ last_is (λ t. t.span) collect_written c.args.place c.args.items.now c.last-item.result c.in-len1-up.len_at_least
