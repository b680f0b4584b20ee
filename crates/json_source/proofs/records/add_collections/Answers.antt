use Rattle.std.proofs.Common.{◌∙◌, sym}
use Rattle.std.proofs.lemmas.Result.{err_from_is_err_and}
use Rattle.serde_json.specs.View.{members_view}
use Rattle.json_source.specs.Text.{collections_steps}
use Rattle.json_source.proofs.Steps.{collections_step, collections_stop}
use Rattle.json_source.proofs.records.add_collections.Goals as goal

pub returns-in_err-add_collection : goal.returns-in_err-add_collection
returns-in_err-add_collection c =
    let p = err_from_is_err_and c.from_residual-in_err-add_collection.result c.from_residual-in_err-add_collection.ensures.1 in
    rw (p.1, p.2)
    (collections_stop c.args.rules c.args.graph.now c.loop-key.graph c.add_collection.new.graph
    (collections_steps c.args.rules c.args.stem.now (members_view c.args.members.now.entries))
    c.args.stem.now c.in_ok-top.top c.loop-key.key-iterator c.next.new.self c.in-Some.key.now c.in-Some.value.now
    c.in_ok-collection.collection c.in_ok-place.place c.in_ok-name.name c.in_err-add_collection.field-0.0
    (sym c.is_collection.ensures ∙ c.if-is_collection.true)
    c.in_ok-top.ensures c.in-Some.ensures.steps (c.in_ok-collection.ensures ∙ c.as_bytes.ensures.value) c.in_ok-place.ensures c.in_ok-name.ensures c.loop-key.invariant c.in_err-add_collection.ensures)

pub loop-key-preserved-then-is_collection : goal.loop-key-preserved-then-is_collection
loop-key-preserved-then-is_collection c =
    collections_step c.args.rules c.args.graph.now c.loop-key.graph c.add_collection.new.graph
    (collections_steps c.args.rules c.args.stem.now (members_view c.args.members.now.entries))
    c.args.stem.now c.in_ok-top.top c.loop-key.key-iterator c.next.new.self c.in-Some.key.now c.in-Some.value.now
    c.in_ok-collection.collection c.in_ok-place.place c.in_ok-name.name
    (sym c.is_collection.ensures ∙ c.if-is_collection.true)
    c.in_ok-top.ensures c.in-Some.ensures.steps (c.in_ok-collection.ensures ∙ c.as_bytes.ensures.value) c.in_ok-place.ensures c.in_ok-name.ensures c.loop-key.invariant c.in_ok-add_collection.ensures
