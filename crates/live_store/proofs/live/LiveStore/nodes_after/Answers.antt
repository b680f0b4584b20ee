use Rattle.std.proofs.Common.{sym, subst}
use Rattle.sd_value.specs.Order.{bytes_cmp}
use Rattle.graph_spec.specs.Steps.{IsCountOf}
use Rattle.edit_spec.specs.declared.Edit.{Edit}
use Rattle.edit_spec.specs.Edited.{HasNodeAfter}
use Rattle.live_store.proofs.live.LiveStore.nodes_after.Goals as goal

pub returns-in-Add-clause-count : goal.returns-in-Add-clause-count
returns-in-Add-clause-count c = subst (λ (e : Edit). IsCountOf bytes_cmp (HasNodeAfter c.args.self.now.graph e) c.nodes_with.result)
    (sym c.in-Add.is) c.nodes_with.ensures.count

pub returns-in-Enter-clause-count : goal.returns-in-Enter-clause-count
returns-in-Enter-clause-count c = subst (λ (e : Edit). IsCountOf bytes_cmp (HasNodeAfter c.args.self.now.graph e) c.nodes_with_one.result)
    (sym c.in-Enter.is) c.nodes_with_one.ensures.count
