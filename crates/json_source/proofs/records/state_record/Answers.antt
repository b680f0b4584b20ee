use Rattle.std.proofs.Common.{◌∷◌, [], Err}
use Rattle.std.proofs.lemmas.Result.{err_from_is_err_and}
use Rattle.sd_graph.specs.Statement.{a_node, a_member}
use Rattle.sd_graph.specs.Stating.{says}
use Rattle.sd_graph.specs.StatingLaws.{Ends-after, Ends-before}
use Rattle.json_source.specs.Text.{members_steps, json_ending}
use Rattle.serde_json.specs.View.{members_view}
use Rattle.json_source.proofs.Steps.{cuts}
use Rattle.json_source.proofs.records.state_record.Goals as goal

pub returns-in_err-state_node : goal.returns-in_err-state_node
returns-in_err-state_node c =
    let p = err_from_is_err_and c.from_residual.result c.from_residual.ensures.1 in
    rw (p.1, p.2)
    (Ends-before c.args.graph.now c.state_node.new.graph (says c.args.at.now (a_node c.args.node.now) ∷ [])
    (says c.args.at.now (a_member c.args.collection.now c.args.node.now) ∷ members_steps c.args.rules c.args.at.now c.args.node.now (members_view c.args.members.now.entries))
    (json_ending (Err c.in_err-state_node.field-0.0)) (cuts c.in_err-state_node.field-0.0) c.in_err-state_node.ensures)

pub returns-in_err-state_member : goal.returns-in_err-state_member
returns-in_err-state_member c =
    let p = err_from_is_err_and c.from_residual-in_err-state_member.result c.from_residual-in_err-state_member.ensures.1 in
    rw (p.1, p.2)
    (Ends-after c.args.graph.now c.state_node.new.graph c.state_member.new.graph (says c.args.at.now (a_node c.args.node.now) ∷ [])
    (says c.args.at.now (a_member c.args.collection.now c.args.node.now) ∷ members_steps c.args.rules c.args.at.now c.args.node.now (members_view c.args.members.now.entries))
    (json_ending (Err c.in_err-state_member.field-0.0)) c.in_ok-state_node.ensures
    (Ends-before c.state_node.new.graph c.state_member.new.graph (says c.args.at.now (a_member c.args.collection.now c.args.node.now) ∷ [])
    (members_steps c.args.rules c.args.at.now c.args.node.now (members_view c.args.members.now.entries))
    (json_ending (Err c.in_err-state_member.field-0.0)) (cuts c.in_err-state_member.field-0.0) c.in_err-state_member.ensures))

pub returns : goal.returns
returns c =
    Ends-after c.args.graph.now c.state_node.new.graph c.add_members.new.graph (says c.args.at.now (a_node c.args.node.now) ∷ [])
    (says c.args.at.now (a_member c.args.collection.now c.args.node.now) ∷ members_steps c.args.rules c.args.at.now c.args.node.now (members_view c.args.members.now.entries))
    (json_ending c.add_members.result) c.in_ok-state_node.ensures
    (Ends-after c.state_node.new.graph c.state_member.new.graph c.add_members.new.graph (says c.args.at.now (a_member c.args.collection.now c.args.node.now) ∷ [])
    (members_steps c.args.rules c.args.at.now c.args.node.now (members_view c.args.members.now.entries))
    (json_ending c.add_members.result) c.in_ok-state_member.ensures c.add_members.ensures)
