use Rattle.std.proofs.Common.{◌+◌, ap, sym}
use Rattle.std.proofs.lemmas.Result.{err_from_is_err_and}
use Rattle.serde_json.specs.View.{items_view}
use Rattle.json_source.specs.Text.{records_steps}
use Rattle.json_source.proofs.Steps.{records_step, records_stop}
use Rattle.json_source.proofs.records.add_records.Goals as goal

pub returns-in_err-add_record : goal.returns-in_err-add_record
returns-in_err-add_record c =
    let p = err_from_is_err_and c.from_residual-in_err-add_record.result c.from_residual-in_err-add_record.ensures.1 in
    let (count, whole) = c.loop-item.invariant in
    rw (p.1, p.2, sym c.deref-item-items.ensures.value)
    (records_stop c.args.rules c.args.graph.now c.loop-item.graph c.add_record.new.graph
    (records_steps c.args.rules c.args.at.now c.args.collection.now c.args.name.now 0 (items_view c.deref-item-items.result.now))
    c.args.at.now c.args.collection.now c.args.name.now c.loop-item.item-index c.deref-item-items.result.now c.item-item.result
    c.in_ok-place.place c.in_ok-node.node c.in_err-add_record.field-0.0
    c.loop-item-test.true c.item-item.is (rw count at c.in_ok-place.ensures) (rw count at c.in_ok-node.ensures) whole c.in_err-add_record.ensures)

pub loop-item-preserved : goal.loop-item-preserved
loop-item-preserved c =
    let (count, whole) = c.loop-item.invariant in (
      ap (λ n. n + 1) count,
      records_step c.args.rules c.args.graph.now c.loop-item.graph c.add_record.new.graph
          (records_steps c.args.rules c.args.at.now c.args.collection.now c.args.name.now 0 (items_view c.deref-item-items.result.now))
          c.args.at.now c.args.collection.now c.args.name.now c.loop-item.item-index c.deref-item-items.result.now c.item-item.result
          c.in_ok-place.place c.in_ok-node.node
          c.loop-item-test.true c.item-item.is (rw count at c.in_ok-place.ensures) (rw count at c.in_ok-node.ensures) whole c.in_ok-add_record.ensures,
    )
