use Rattle.std.proofs.Common.{◌≡◌, true, [], ◌∷◌, map, sym, ◌∙◌}
use Rattle.std.proofs.lemmas.List.{map-append}
use Rattle.std.proofs.lemmas.Result.{err_from_is_err_and}
use Rattle.grammar.specs.Reading.{starts}
use Rattle.grammar.proofs.RepeatLoop.{shrinks, goes_on, done}
use Rattle.template_items.specs.declared.item.Mark.TheVariants as marks
use Rattle.template_tags.specs.Terminals.{is_mark}
use Rattle.template_reader.specs.Entries.{entry_of}
use Rattle.template_reader.proofs.FileParts.{entry_part, entry_opens}
use Rattle.token_reader.proofs.Ends.{ends}
use Rattle.template_reader.proofs.file.templates_at.Goals as goal

pub returns-in_err-entry : goal.returns-in_err-entry
returns-in_err-entry c =
    let p = err_from_is_err_and c.from_residual.result c.from_residual.ensures.1 in
    let is : starts (is_mark marks.OpenTemplate) c.list.rest.now ≡ true = sym c.has_mark.ensures ∙ c.list-test.true in
    rw (p.1, p.2) (ends (is_mark marks.OpenTemplate) entry_part entry_opens c.in_err-entry.field-0.0 (map entry_of c.list.entries.items) c.list.rest.now _ is c.in_err-entry.ensures c.list.invariant)

pub list-smaller : goal.list-smaller
list-smaller c =
    let is : starts (is_mark marks.OpenTemplate) c.list.rest.now ≡ true = sym c.has_mark.ensures ∙ c.list-test.true in
    shrinks (is_mark marks.OpenTemplate) entry_part entry_opens c.list.rest.now (entry_of c.in_ok-entry.entry) c.in_ok-entry.after.now is c.in_ok-entry.ensures

pub list-preserved : goal.list-preserved
list-preserved c =
    let is : starts (is_mark marks.OpenTemplate) c.list.rest.now ≡ true = sym c.has_mark.ensures ∙ c.list-test.true in
    rw (c.in_ok-push.ensures.items, map-append entry_of c.list.entries.items (c.in_ok-entry.entry ∷ []))
    (goes_on (is_mark marks.OpenTemplate) entry_part entry_opens (map entry_of c.list.entries.items) c.list.rest.now (entry_of c.in_ok-entry.entry) c.in_ok-entry.after.now _ is c.in_ok-entry.ensures c.list.invariant)

pub returns : goal.returns
returns c = done (is_mark marks.OpenTemplate) entry_part entry_opens (map entry_of c.list.entries.items) c.list.rest.now _ (sym c.has_mark.ensures ∙ c.list-test.false) c.list.invariant
