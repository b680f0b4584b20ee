use Rattle.std.proofs.Common.{arith, ◌≡◌, ◌∙◌, ap, sym, subst, inl, inr, Some, None}
use Rattle.std.specs.Option.{option_copied}
use Rattle.sd_value.specs.Order.{bytes_cmp}
use Rattle.sd_value.specs.OrderLaws.{bytes_cmp-total, bytes_cmp-exact}
use Rattle.graph_spec.specs.Steps.{IsCountOf}
use Rattle.live_layers.specs.Grouped.{node_name}
use Rattle.live_layers.proofs.PickLaws.{counted_as}
use Rattle.live_layers.proofs.GroupLaws.{name_is}
use Rattle.live_store.specs.Counts.{HasNodes}
use Rattle.live_store.proofs.CountLaws.{end_moved}
use Rattle.live_store.proofs.live.LiveStore.with_end.Goals as goal

pub recount-requires-clause-there : goal.recount-requires-clause-there
recount-requires-clause-there c =
    let is = name_is c.args.edge.now.to c.in-Some.name.now (sym c.node_of.ensures ∙ ap option_copied c.in-Some.is) in
    (end_moved c.args.self.now.graph c.args.edge.now c.in-Some.name.now is c.args.nodes c.requires.count
    c.is_named-is_there.result c.is_named-is_there.ensures).0

pub returns-in-Some-clause-count : goal.returns-in-Some-clause-count
returns-in-Some-clause-count c =
    let is = name_is c.args.edge.now.to c.in-Some.name.now (sym c.node_of.ensures ∙ ap option_copied c.in-Some.is) in
    subst (IsCountOf bytes_cmp (HasNodes c.args.self.now.graph c.args.edge.now)) (sym c.recount.ensures)
    (end_moved c.args.self.now.graph c.args.edge.now c.in-Some.name.now is c.args.nodes c.requires.count
    c.is_named-is_there.result c.is_named-is_there.ensures).1

pub returns-in-Some-clause-small : goal.returns-in-Some-clause-small
returns-in-Some-clause-small c = omega (arith, c.recount.ensures, c.requires.small)

pub returns-in-None-clause-count : goal.returns-in-None-clause-count
returns-in-None-clause-count c =
    let none : node_name c.args.edge.now.to ≡ None = sym c.node_of.ensures ∙ ap option_copied c.in-None.is in
    counted_as bytes_cmp bytes_cmp-total bytes_cmp-exact c.args.nodes c.requires.count
    (λ n h. elim h [ inl m ↦ inl m | inr e ↦ inr (inl e) ])
    (λ n h. elim h [
      | inl m ↦ inl m
      | inr k ↦ elim k [
        | inl e ↦ inr e
        | inr is ↦ (let some : node_name c.args.edge.now.to ≡ Some n = ap node_name is in cc)
      ]
    ])
