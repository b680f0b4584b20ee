use Rattle.std.proofs.Common.{◌∙◌, sym}
use Rattle.serde_json.specs.View.{view}
use Rattle.json_source.proofs.Steps.{table_is, no_table}
use Rattle.json_source.proofs.tables.is_table.Goals as goal

pub returns-then-is_empty : goal.returns-then-is_empty
returns-then-is_empty c =
    let list = rw c.in-Some.is at c.as_array.ensures in
    let items = rw (sym c.as_slice-items.ensures.value) at list in
    sym (no_table (view c.args.value.now) c.as_slice-items.result.now items (sym c.is_empty.ensures ∙ c.if-is_empty.true))

pub returns : goal.returns
returns c =
    let list = rw c.in-Some.is at c.as_array.ensures in
    let items = rw (sym c.as_slice-items.ensures.value) at list in
    c.are_objects.ensures ∙ sym (table_is (view c.args.value.now) c.as_slice-items.result.now items (sym c.is_empty.ensures ∙ c.if-is_empty.false))
