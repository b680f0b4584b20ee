use Rattle.std.proofs.Common.{sym, subst}
use Rattle.std.specs.Prelude.{IfOk}
use Rattle.edit_spec.specs.declared.Edit.{Edit}
use Rattle.live_store.specs.Live.{IsNodeOf, NewNames}
use Rattle.live_store.proofs.nodes.declare.Goals as goal

pub returns-in-Add-clause-new : goal.returns-in-Add-clause-new
returns-in-Add-clause-new c = subst (λ (e : Edit). IfOk c.declare_ends.result
    (λ d. NewNames c.args.base.now (IsNodeOf e) c.args.names.now.keys c.declare_ends.new.names.keys)) (sym c.in-Add.is)
    c.declare_ends.ensures.new

pub returns-in-Enter-clause-new : goal.returns-in-Enter-clause-new
returns-in-Enter-clause-new c = subst (λ (e : Edit). IfOk c.declare_node.result
    (λ d. NewNames c.args.base.now (IsNodeOf e) c.args.names.now.keys c.declare_node.new.names.keys)) (sym c.in-Enter.is)
    c.declare_node.ensures.new
