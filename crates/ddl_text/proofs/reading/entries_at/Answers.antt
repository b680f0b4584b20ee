use Rattle.std.proofs.Common.{◌≡◌, true, sym, ◌∙◌}
use Rattle.std.proofs.lemmas.Result.{err_from_is_err_and}
use Rattle.grammar.specs.Reading.{starts, repeat}
use Rattle.grammar.proofs.RepeatLoop.{shrinks, goes_on, done}
use Rattle.token_reader.specs.Terminals.{is_name}
use Rattle.ddl_text.specs.Reading.{read_entry}
use Rattle.ddl_text.proofs.Parts.{entry_part, entry_opens}
use Rattle.token_reader.proofs.Ends.{ends}
use Rattle.ddl_text.proofs.reading.entries_at.Goals as goal

pub returns-in_err-entry : goal.returns-in_err-entry
returns-in_err-entry c =
    let p = err_from_is_err_and c.from_residual.result c.from_residual.ensures.1 in
    let is : starts is_name c.entries.rest.now ≡ true = sym c.has_name.ensures ∙ c.entries-test.true in
    rw (p.1, p.2) (ends is_name entry_part entry_opens c.in_err-entry.field-0.0 c.entries.entries.items c.entries.rest.now (repeat is_name read_entry c.args.tokens.now) is c.in_err-entry.ensures c.entries.invariant)

pub entries-smaller : goal.entries-smaller
entries-smaller c =
    let is : starts is_name c.entries.rest.now ≡ true = sym c.has_name.ensures ∙ c.entries-test.true in
    shrinks is_name entry_part entry_opens c.entries.rest.now c.in_ok-entry.entry c.in_ok-entry.after.now is c.in_ok-entry.ensures

pub entries-preserved : goal.entries-preserved
entries-preserved c =
    let is : starts is_name c.entries.rest.now ≡ true = sym c.has_name.ensures ∙ c.entries-test.true in
    rw c.in_ok-push.ensures.items (goes_on is_name entry_part entry_opens c.entries.entries.items c.entries.rest.now c.in_ok-entry.entry c.in_ok-entry.after.now (repeat is_name read_entry c.args.tokens.now) is c.in_ok-entry.ensures c.entries.invariant)

pub returns : goal.returns
returns c = done is_name entry_part entry_opens c.entries.entries.items c.entries.rest.now (repeat is_name read_entry c.args.tokens.now) (sym c.has_name.ensures ∙ c.entries-test.false) c.entries.invariant
