use Rattle.std.specs.Prelude.{Ok, Err}
use Rattle.std.proofs.Common.{◌∙◌, sym, ap, subst}
use Rattle.std.proofs.lemmas.Result.{err_from_is_err_and}
use Rattle.graph_spec.specs.DataGraph.{DataGraph}
use Rattle.sd_graph.specs.ProgramLimits.{program_limits}
use Rattle.sd_graph.specs.Statement.{Building}
use Rattle.sd_graph.specs.declared.GraphRefusal.{GraphRefusal}
use Rattle.edit_spec.specs.Edited.{Edited}
use Rattle.edit_graphs.specs.After.{graph_after}
use Rattle.edit_graphs.proofs.After.{after}
use Rattle.live_store.specs.Live.{Applies, changed}
use Rattle.live_store.proofs.Names.{names_listed}
use Rattle.live_store.proofs.Edits.{edited_after, layers_after, accepted, refused_as}
use Rattle.live_store.proofs.live.LiveStore.apply.Goals as goal

pub returns-in_err-check_room-clause-applies : goal.returns-in_err-check_room-clause-applies
returns-in_err-check_room-clause-applies c =
    let before : DataGraph = changed c.self.inside.base c.self.inside.came c.self.inside.gone c.self.inside.nodes.keys in
    let H : DataGraph = graph_after c.args.edit.now before in
    let edited : Edited before c.args.edit.now H = after before c.args.edit.now c.self.invariant.layers.whole in
    let are = c.told_after-told.ensures H (subst (λ (b : Building). Edited b.graph c.args.edit.now H) c.self.view_is edited) in
    let p = err_from_is_err_and c.from_residual.result
    c.from_residual.ensures.1 in
    subst (λ r. Applies c.args.edit.now c.args.self.now c.args.self.now r) (sym (p.1 ∙ ap (λ (r : GraphRefusal). Err r) p.2))
    (refused_as _ (record { limits = program_limits; graph = before }) c.args.edit.now H
    c.self.invariant.layers.whole edited _ _ c.in_err-check_room.was (c.check_room.ensures H are) c.self.view_is)

pub invariant_of-self-in-Ok : goal.invariant_of-self-in-Ok
invariant_of-self-in-Ok c =
    let before : DataGraph = changed c.self.inside.base c.self.inside.came c.self.inside.gone c.self.inside.nodes.keys in
    let lists = names_listed c.self.inside.base c.args.edit.now c.self.inside.nodes.keys c.declare.new.names.keys
    c.in_ok-declared.ensures.new c.in_ok-declared.ensures.ordered in
    let edited = edited_after c.self.inside.base c.self.inside.came c.self.inside.gone c.self.inside.nodes.keys before
    c.self.invariant.layers c.args.edit.now c.change.new.came c.change.new.gone c.in-Ok.ensures.changed c.requires
    c.declare.new.names.keys lists in
    let are = c.told_after-told.ensures (changed c.self.inside.base c.change.new.came c.change.new.gone c.declare.new.names.keys)
    (subst (λ (b : Building). Edited b.graph c.args.edit.now
    (changed c.self.inside.base c.change.new.came c.change.new.gone c.declare.new.names.keys)) c.self.view_is edited) in
    record {
      layers = layers_after c.self.inside.base c.self.inside.came c.self.inside.gone c.self.inside.nodes.keys before
          c.self.invariant.layers c.args.edit.now c.change.new.came c.change.new.gone c.in-Ok.ensures.changed c.requires
          c.declare.new.names.keys lists;
      reported = are;
      within = c.in_ok-check_room.ensures
          (changed c.self.inside.base c.change.new.came c.change.new.gone c.declare.new.names.keys) are;
    }

pub returns-in-Ok-clause-applies : goal.returns-in-Ok-clause-applies
returns-in-Ok-clause-applies c =
    let before : DataGraph = changed c.self.inside.base c.self.inside.came c.self.inside.gone c.self.inside.nodes.keys in
    let H : DataGraph = changed c.self.inside.base c.change.new.came c.change.new.gone c.declare.new.names.keys in
    let lists = names_listed c.self.inside.base c.args.edit.now c.self.inside.nodes.keys c.declare.new.names.keys
    c.in_ok-declared.ensures.new c.in_ok-declared.ensures.ordered in
    let edited = edited_after c.self.inside.base c.self.inside.came c.self.inside.gone c.self.inside.nodes.keys before
    c.self.invariant.layers c.args.edit.now c.change.new.came c.change.new.gone c.in-Ok.ensures.changed c.requires
    c.declare.new.names.keys lists in
    let are = c.told_after-told.ensures H (subst (λ (b : Building). Edited b.graph c.args.edit.now H) c.self.view_is edited) in
    subst (λ (b : Building). Applies c.args.edit.now b (record { limits = program_limits; graph = H }) (Ok tt))
    c.self.view_is
    (accepted (record { limits = program_limits; graph = before }) c.args.edit.now H
    c.self.invariant.layers.whole edited (c.in_ok-check_room.ensures H are))

pub returns-in-Ok-clause-edited : goal.returns-in-Ok-clause-edited
returns-in-Ok-clause-edited c =
    let before : DataGraph = changed c.self.inside.base c.self.inside.came c.self.inside.gone c.self.inside.nodes.keys in
    let lists = names_listed c.self.inside.base c.args.edit.now c.self.inside.nodes.keys c.declare.new.names.keys
    c.in_ok-declared.ensures.new c.in_ok-declared.ensures.ordered in
    subst (λ (b : Building). Edited b.graph c.args.edit.now
    (changed c.self.inside.base c.change.new.came c.change.new.gone c.declare.new.names.keys)) c.self.view_is
    (edited_after c.self.inside.base c.self.inside.came c.self.inside.gone c.self.inside.nodes.keys before
    c.self.invariant.layers c.args.edit.now c.change.new.came c.change.new.gone c.in-Ok.ensures.changed c.requires
    c.declare.new.names.keys lists)
