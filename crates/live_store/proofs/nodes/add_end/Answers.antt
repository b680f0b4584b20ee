use Rattle.std.proofs.Common.{◌≡◌, ◌∙◌, ap, sym}
use Rattle.std.specs.Option.{option_copied}
use Rattle.std.proofs.lemmas.Result.{IfOk-weaker}
use Rattle.graph_spec.specs.DataGraph.{node}
use Rattle.live_layers.proofs.GroupLaws.{name_is, same_node}
use Rattle.live_store.proofs.Names.{names_as}
use Rattle.live_store.proofs.nodes.add_end.Goals as goal

pub returns-in-Some-clause-new : goal.returns-in-Some-clause-new
returns-in-Some-clause-new c =
    let is = name_is c.args.value.now c.in-Some.name.now (sym c.node_of.ensures ∙ ap option_copied c.in-Some.is) in
    IfOk-weaker c.add_name.result _ _ (λ added new. names_as c.args.base.now (λ n. n ≡ c.in-Some.name.now)
    (λ n. c.args.value.now ≡ node n) c.args.names.now.keys c.add_name.new.names.keys new
    (λ n e. is ∙ ap node (sym e)) (λ n e. same_node (sym e ∙ is))) c.add_name.ensures.new
