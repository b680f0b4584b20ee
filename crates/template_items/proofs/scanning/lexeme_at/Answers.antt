use Rattle.std.proofs.Common.{drop}
use Rattle.sd_lex.specs.Reading.{lexeme}
use Rattle.sd_lex.proofs.Lexemes.{lexeme_found}
use Rattle.template_items.proofs.Scanned.{token_within}
use Rattle.template_items.proofs.scanning.lexeme_at.Goals as goal

pub returns-clause-is : goal.returns-clause-is
returns-clause-is c = c.token_at.ensures.only (lexeme c.args.at (drop c.args.at c.args.bytes.now)) (lexeme_found c.args.at (drop c.args.at c.args.bytes.now))

pub returns-clause-within : goal.returns-clause-within
returns-clause-within c = token_within c.args.at c.args.bytes.now c.token_at.result c.requires c.token_at.ensures.exact
