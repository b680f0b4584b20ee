use Rattle.std.proofs.Common.{arith, sym, subst, refl, inl, inr}
use Rattle.std.specs.Prelude.{true, Contains}
use Rattle.sd_value.specs.Order.{bytes_cmp}
use Rattle.sd_value.specs.OrderLaws.{bytes_cmp-total, bytes_cmp-exact}
use Rattle.graph_spec.specs.Steps.{IsCountOf}
use Rattle.live_store.specs.Counts.{HasOneMore}
use Rattle.live_store.proofs.CountLaws.{moved, itself}
use Rattle.live_store.proofs.live.LiveStore.nodes_with_one.Goals as goal

pub recount-requires-clause-there : goal.recount-requires-clause-there
recount-requires-clause-there c =
    (moved bytes_cmp bytes_cmp-total bytes_cmp-exact {Q = Contains c.args.self.now.graph.nodes}
    {Q' = HasOneMore c.args.self.now.graph c.args.name.now} c.args.name.now c.counts-before.result.sizes.nodes
    (subst (IsCountOf bytes_cmp (Contains c.args.self.now.graph.nodes)) (sym c.counts-before.ensures.told.node_count)
    (itself bytes_cmp bytes_cmp-total bytes_cmp-exact c.args.self.now.graph.nodes c.counts-before.ensures.well_formed.nodes_ascend))
    (λ n other. (λ m. inl m, λ h. elim h [ inl m ↦ m | inr e ↦ absurd (other e) ]))
    c.has_node-is_there.result true c.has_node-is_there.ensures.is (λ t. inr refl, λ h. refl)).0

pub returns-clause-count : goal.returns-clause-count
returns-clause-count c =
    subst (IsCountOf bytes_cmp (HasOneMore c.args.self.now.graph c.args.name.now)) (sym c.recount.ensures)
    (moved bytes_cmp bytes_cmp-total bytes_cmp-exact {Q = Contains c.args.self.now.graph.nodes}
    {Q' = HasOneMore c.args.self.now.graph c.args.name.now} c.args.name.now c.counts-before.result.sizes.nodes
    (subst (IsCountOf bytes_cmp (Contains c.args.self.now.graph.nodes)) (sym c.counts-before.ensures.told.node_count)
    (itself bytes_cmp bytes_cmp-total bytes_cmp-exact c.args.self.now.graph.nodes c.counts-before.ensures.well_formed.nodes_ascend))
    (λ n other. (λ m. inl m, λ h. elim h [ inl m ↦ m | inr e ↦ absurd (other e) ]))
    c.has_node-is_there.result true c.has_node-is_there.ensures.is (λ t. inr refl, λ h. refl)).1

pub returns-clause-small : goal.returns-clause-small
returns-clause-small c = omega (arith, c.recount.ensures, c.counts-before.ensures.small.nodes)
