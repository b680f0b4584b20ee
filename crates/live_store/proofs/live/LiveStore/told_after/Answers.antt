use Rattle.std.proofs.Common.{◌∙◌, ap, sym, subst}
use Rattle.sd_value.specs.Order.{bytes_cmp}
use Rattle.sd_value.specs.OrderLaws.{bytes_cmp-total, bytes_cmp-exact}
use Rattle.edit_laws.proofs.Graphs.{well_formed_after}
use Rattle.edit_spec.specs.declared.Edit.{Edit}
use Rattle.edit_spec.specs.Edited.{Edited, HasNodeAfter}
use Rattle.live_store.specs.Live.{puts}
use Rattle.live_store.proofs.CountLaws.{length_is}
use Rattle.live_store.proofs.AfterLaws.{added, removed, entered, left, members_added, members_removed, edges_entered, edges_left}
use Rattle.live_store.proofs.live.LiveStore.told_after.Goals as goal

pub returns-in-Add : goal.returns-in-Add
returns-in-Add c = λ H edited.
    let done = subst (λ (e : Edit). Edited c.args.self.now.graph e H) c.in-Add.is edited in
    c.told_with_edge.ensures H (well_formed_after c.args.self.now.graph H c.args.edit.now c.sizes-sizes.ensures.well_formed c.requires edited)
    (added c.args.self.now.graph H c.sizes-sizes.ensures.well_formed c.in-Add.edge done c.puts-is.result
    (c.puts-is.ensures ∙ ap puts c.in-Add.is))
    (sym (length_is bytes_cmp bytes_cmp-total bytes_cmp-exact (HasNodeAfter c.args.self.now.graph c.args.edit.now) H.nodes
    c.nodes_after-nodes.result edited.nodes c.nodes_after-nodes.ensures.count))
    (members_added c.args.self.now.graph H c.sizes-sizes.ensures.well_formed c.in-Add.edge done)

pub returns-in-Remove : goal.returns-in-Remove
returns-in-Remove c = λ H edited.
    let done = subst (λ (e : Edit). Edited c.args.self.now.graph e H) c.in-Remove.is edited in
    c.told_with_edge-in-Remove.ensures H (well_formed_after c.args.self.now.graph H c.args.edit.now c.sizes-sizes.ensures.well_formed c.requires edited)
    (removed c.args.self.now.graph H c.sizes-sizes.ensures.well_formed c.in-Remove.edge done c.puts-is.result
    (c.puts-is.ensures ∙ ap puts c.in-Remove.is))
    (sym (length_is bytes_cmp bytes_cmp-total bytes_cmp-exact (HasNodeAfter c.args.self.now.graph c.args.edit.now) H.nodes
    c.nodes_after-nodes.result edited.nodes c.nodes_after-nodes.ensures.count))
    (members_removed c.args.self.now.graph H c.sizes-sizes.ensures.well_formed c.in-Remove.edge done)

pub returns-in-Enter : goal.returns-in-Enter
returns-in-Enter c = λ H edited.
    let done = subst (λ (e : Edit). Edited c.args.self.now.graph e H) c.in-Enter.is edited in
    c.told_with_member.ensures H (well_formed_after c.args.self.now.graph H c.args.edit.now c.sizes-sizes.ensures.well_formed c.requires edited)
    (entered c.args.self.now.graph H c.sizes-sizes.ensures.well_formed c.in-Enter.member done c.puts-is.result
    (c.puts-is.ensures ∙ ap puts c.in-Enter.is))
    (sym (length_is bytes_cmp bytes_cmp-total bytes_cmp-exact (HasNodeAfter c.args.self.now.graph c.args.edit.now) H.nodes
    c.nodes_after-nodes.result edited.nodes c.nodes_after-nodes.ensures.count))
    (edges_entered c.args.self.now.graph H c.sizes-sizes.ensures.well_formed c.in-Enter.member done)

pub returns-in-Leave : goal.returns-in-Leave
returns-in-Leave c = λ H edited.
    let done = subst (λ (e : Edit). Edited c.args.self.now.graph e H) c.in-Leave.is edited in
    c.told_with_member-in-Leave.ensures H (well_formed_after c.args.self.now.graph H c.args.edit.now c.sizes-sizes.ensures.well_formed c.requires edited)
    (left c.args.self.now.graph H c.sizes-sizes.ensures.well_formed c.in-Leave.member done c.puts-is.result
    (c.puts-is.ensures ∙ ap puts c.in-Leave.is))
    (sym (length_is bytes_cmp bytes_cmp-total bytes_cmp-exact (HasNodeAfter c.args.self.now.graph c.args.edit.now) H.nodes
    c.nodes_after-nodes.result edited.nodes c.nodes_after-nodes.ensures.count))
    (edges_left c.args.self.now.graph H c.sizes-sizes.ensures.well_formed c.in-Leave.member done)
