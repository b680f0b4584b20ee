use Rattle.std.proofs.Common.{◌≡◌, ◌∙◌, ◌∷◌, [], Err, ap, sym, ◌+◌}
use Rattle.std.proofs.lemmas.Result.{err_from_is_err_and}
use Rattle.serde_json.specs.Data.{object}
use Rattle.serde_json.specs.View.{view, items_view, members_view}
use Rattle.serde_json.proofs.Views.{view-Object}
use Rattle.sd_value.specs.declared.Value.TheVariants.{Data as a_datum}
use Rattle.sd_value.specs.declared.Datum.TheVariants.{Node}
use Rattle.sd_graph.specs.Statement.{an_edge}
use Rattle.sd_graph.specs.Stating.{says}
use Rattle.sd_graph.specs.StatingLaws.{Ends-after, Ends-before}
use Rattle.json_source.specs.Text.{items_steps, members_steps, json_ending}
use Rattle.json_source.proofs.Steps.{items_step, items_stop, members_step, members_stop, order_stop, cuts, view_string}
use Rattle.json_source.proofs.values.+add_value.Goals as goal

pub add_items-returns-in_err-add_value : goal.add_items-returns-in_err-add_value
add_items-returns-in_err-add_value t c =
    let p = err_from_is_err_and c.from_residual-in_err-add_value.result c.from_residual-in_err-add_value.ensures.1 in
    let (count, whole) = c.loop-item.invariant in
    rw (p.1, p.2, sym c.deref-item-items.ensures.value)
    (items_stop c.args.rules c.args.graph.now c.loop-item.graph c.add_value.new.graph
    (items_steps c.args.rules c.args.at.now c.args.node.now c.args.label.now c.args.child.now 0 (items_view c.deref-item-items.result.now))
    c.args.at.now c.args.node.now c.args.label.now c.args.child.now c.loop-item.item-index c.deref-item-items.result.now c.item-item.result
    c.in_ok-place.place c.in_ok-name.name c.in_err-add_value.field-0.0
    c.loop-item-test.true c.item-item.is (rw count at c.in_ok-place.ensures) (rw count at c.in_ok-name.ensures) whole c.in_err-add_value.ensures)

pub add_items-loop-item-preserved : goal.add_items-loop-item-preserved
add_items-loop-item-preserved t c =
    let (count, whole) = c.loop-item.invariant in (
      ap (λ n. n + 1) count,
      items_step c.args.rules c.args.graph.now c.loop-item.graph c.add_value.new.graph
          (items_steps c.args.rules c.args.at.now c.args.node.now c.args.label.now c.args.child.now 0 (items_view c.deref-item-items.result.now))
          c.args.at.now c.args.node.now c.args.label.now c.args.child.now c.loop-item.item-index c.deref-item-items.result.now c.item-item.result
          c.in_ok-place.place c.in_ok-name.name
          c.loop-item-test.true c.item-item.is (rw count at c.in_ok-place.ensures) (rw count at c.in_ok-name.ensures) whole c.in_ok-add_value.ensures,
    )

pub add_members-returns-in_err-add_value : goal.add_members-returns-in_err-add_value
add_members-returns-in_err-add_value t c =
    let p = err_from_is_err_and c.from_residual-in_err-add_value.result c.from_residual-in_err-add_value.ensures.1 in
    rw (p.1, p.2)
    (members_stop c.args.rules c.args.graph.now c.loop-key.graph c.add_value.new.graph
    (members_steps c.args.rules c.args.at.now c.args.node.now (members_view c.args.members.now.entries))
    c.args.at.now c.args.node.now c.loop-key.key-iterator c.next.new.self c.in-Some.key.now c.in-Some.member.now
    c.in_ok-label.label c.in_ok-place.place c.in_ok-name.name
    c.in-Some.ensures.steps (c.in_ok-label.ensures ∙ c.as_bytes.ensures.value) c.in_ok-place.ensures c.in_ok-name.ensures c.loop-key.invariant c.in_err-add_value.field-0.0 c.in_err-add_value.ensures)

pub add_members-returns-in_err-add_order : goal.add_members-returns-in_err-add_order
add_members-returns-in_err-add_order t c =
    let p = err_from_is_err_and c.from_residual-in_err-add_order.result c.from_residual-in_err-add_order.ensures.1 in
    rw (p.1, p.2)
    (order_stop c.args.rules c.args.graph.now c.loop-key.graph c.add_value.new.graph
    (members_steps c.args.rules c.args.at.now c.args.node.now (members_view c.args.members.now.entries))
    c.args.at.now c.args.node.now c.loop-key.key-iterator c.next.new.self c.in-Some.key.now c.in-Some.member.now
    c.in_ok-label.label c.in_ok-place.place c.in_ok-name.name
    c.in-Some.ensures.steps (c.in_ok-label.ensures ∙ c.as_bytes.ensures.value) c.in_ok-place.ensures c.in_ok-name.ensures c.loop-key.invariant c.in_ok-add_value.ensures
    c.add_order.new.graph c.in_err-add_order.field-0.0 c.in_err-add_order.ensures)

pub add_members-loop-key-preserved : goal.add_members-loop-key-preserved
add_members-loop-key-preserved t c =
    members_step c.args.rules c.args.graph.now c.loop-key.graph c.add_value.new.graph
    (members_steps c.args.rules c.args.at.now c.args.node.now (members_view c.args.members.now.entries))
    c.args.at.now c.args.node.now c.loop-key.key-iterator c.next.new.self c.in-Some.key.now c.in-Some.member.now
    c.in_ok-label.label c.in_ok-place.place c.in_ok-name.name
    c.in-Some.ensures.steps (c.in_ok-label.ensures ∙ c.as_bytes.ensures.value) c.in_ok-place.ensures c.in_ok-name.ensures c.loop-key.invariant c.in_ok-add_value.ensures
    c.add_order.new.graph c.in_ok-add_order.ensures

pub add_value-returns-in_err-state_child-in-Object : goal.add_value-returns-in_err-state_child-in-Object
add_value-returns-in_err-state_child-in-Object t c =
    let p = err_from_is_err_and c.from_residual.result c.from_residual.ensures.1 in
    let is : view c.args.value.now ≡ object (members_view c.in-Object.members.entries) = ap view c.in-Object.is ∙ view-Object c.in-Object.members in
    rw (p.1, p.2, is)
    (Ends-before c.args.graph.now c.state_child.new.graph (says c.args.at.now (an_edge c.args.node.now c.args.label.now (a_datum (Node c.args.child.now))) ∷ [])
    (members_steps c.args.rules c.args.at.now c.args.child.now (members_view c.in-Object.members.entries))
    (json_ending (Err c.in_err-state_child-in-Object.field-0.0)) (cuts c.in_err-state_child-in-Object.field-0.0) c.in_err-state_child-in-Object.ensures)

pub add_value-returns-in-String : goal.add_value-returns-in-String
add_value-returns-in-String t c =
    rw (ap view c.in-String.is ∙ view_string c.in-String.text, sym c.as_bytes.ensures.value) c.state_text-in-String.ensures

pub add_value-returns-in_ok-state_child-in-Object : goal.add_value-returns-in_ok-state_child-in-Object
add_value-returns-in_ok-state_child-in-Object t c =
    let is : view c.args.value.now ≡ object (members_view c.in-Object.members.entries) = ap view c.in-Object.is ∙ view-Object c.in-Object.members in
    rw is
    (Ends-after c.args.graph.now c.state_child.new.graph c.add_members.new.graph (says c.args.at.now (an_edge c.args.node.now c.args.label.now (a_datum (Node c.args.child.now))) ∷ [])
    (members_steps c.args.rules c.args.at.now c.args.child.now (members_view c.in-Object.members.entries))
    (json_ending c.add_members.result) c.in_ok-state_child-in-Object.ensures c.add_members.ensures)
