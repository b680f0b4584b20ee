-- What answers for the links of a query.
use Rattle.site_spec.specs.Site.{Scope}
use Rattle.query_blocks.specs.Blocks.{scope_of}
use Rattle.inclusion.specs.Answers.{IsTableOf}
use Rattle.command_lint.specs.declared.link_answers.QueryLinks.{QueryLinks}

-- the query whose links these are
abbrev pub query_of : QueryLinks → Scope
query_of links = scope_of links.blocks.now

-- the table is that of the query
abbrev pub IsTabled : QueryLinks → Type 0
IsTabled links = IsTableOf (query_of links) links.judge
