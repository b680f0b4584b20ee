use Rattle.std.proofs.Common.{◌∙◌, sym}
use Rattle.serde_json.specs.View.{view}
use Rattle.json_source.proofs.Lists.{empty_list_is}
use Rattle.json_source.proofs.tables.is_empty_list.Goals as goal

pub returns : goal.returns
returns c =
    let list = rw c.in-Some.is at c.as_array.ensures in
    let items = rw (sym c.as_slice-items.ensures.value) at list in
    c.is_empty.ensures ∙ sym (empty_list_is (view c.args.value.now) c.as_slice-items.result.now items)
