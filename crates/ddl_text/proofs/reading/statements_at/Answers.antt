use Rattle.std.proofs.Common.{◌≡◌, true, sym, ◌∙◌}
use Rattle.std.proofs.lemmas.Result.{err_from_is_err_and}
use Rattle.grammar.specs.Reading.{starts, repeat}
use Rattle.grammar.proofs.RepeatLoop.{shrinks, goes_on, done}
use Rattle.ddl_text.specs.Reading.{read_statement, begins_statement}
use Rattle.ddl_text.proofs.Parts.{statement_part, statement_opens}
use Rattle.token_reader.proofs.Ends.{ends}
use Rattle.ddl_text.proofs.reading.statements_at.Goals as goal

pub returns-in_err-statement : goal.returns-in_err-statement
returns-in_err-statement c =
    let p = err_from_is_err_and c.from_residual.result c.from_residual.ensures.1 in
    let is : starts begins_statement c.statements.rest.now ≡ true = sym c.has_statement.ensures ∙ c.statements-test.true in
    rw (p.1, p.2) (ends begins_statement statement_part statement_opens c.in_err-statement.field-0.0 c.statements.statements.items c.statements.rest.now (repeat begins_statement read_statement c.args.tokens.now) is c.in_err-statement.ensures c.statements.invariant)

pub statements-smaller : goal.statements-smaller
statements-smaller c =
    let is : starts begins_statement c.statements.rest.now ≡ true = sym c.has_statement.ensures ∙ c.statements-test.true in
    shrinks begins_statement statement_part statement_opens c.statements.rest.now c.in_ok-statement.statement c.in_ok-statement.after.now is c.in_ok-statement.ensures

pub statements-preserved : goal.statements-preserved
statements-preserved c =
    let is : starts begins_statement c.statements.rest.now ≡ true = sym c.has_statement.ensures ∙ c.statements-test.true in
    rw c.in_ok-push.ensures.items (goes_on begins_statement statement_part statement_opens c.statements.statements.items c.statements.rest.now c.in_ok-statement.statement c.in_ok-statement.after.now (repeat begins_statement read_statement c.args.tokens.now) is c.in_ok-statement.ensures c.statements.invariant)

pub returns : goal.returns
returns c = done begins_statement statement_part statement_opens c.statements.statements.items c.statements.rest.now (repeat begins_statement read_statement c.args.tokens.now) (sym c.has_statement.ensures ∙ c.statements-test.false) c.statements.invariant
