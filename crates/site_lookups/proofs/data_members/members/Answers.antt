use Rattle.std.proofs.Common.{subst}
use Rattle.std.specs.Prelude.{Contains, ◌↔◌}
use Rattle.sd_value.specs.declared.Value.{Value}
use Rattle.graph_spec.specs.DataGraph.{Name}
use Rattle.query_spec.specs.Query.{Chain, variable, plain}
use Rattle.site_spec.specs.Site.{SomeRow, IsTargetUnder}
use Rattle.site_lookups.specs.MemberChain.{member_chain}
use Rattle.site_lookups.proofs.MemberRows.{member_chain_well_made, members_listed}
use Rattle.weight_spec.specs.CountsAtMost.{CountsAtMost}
use Rattle.site_lookups.proofs.Counts.{member_rows}
use Rattle.weight_spec.proofs.Handing.{hands_none}
use Rattle.query_spec.specs.Rows.{IsRow}
use Rattle.graph_spec.specs.DataGraph.{HasMember}
use Rattle.site_lookups.proofs.data_members.members.Goals as goal

pub targets_of-requires : goal.targets_of-requires
targets_of-requires g c = record { well_made = rw c.in_ok-chain.ensures (member_chain_well_made c.args.collection.now) }

pub returns-clause-values : goal.returns-clause-values
returns-clause-values g c =
    let one = subst (λ (k : Chain). (v : Value) → Contains c.in_ok-values.values.items v ↔ SomeRow (g.A.Asker.graph c.args.asker.now) k (λ s. IsTargetUnder s (plain (variable c.in_ok-new.field-0)) v)) c.in_ok-chain.ensures c.in_ok-values.ensures.values in
    let both = subst (λ (x : Name). (v : Value) → Contains c.in_ok-values.values.items v ↔ SomeRow (g.A.Asker.graph c.args.asker.now) (member_chain c.args.collection.now) (λ s. IsTargetUnder s (plain (variable x)) v)) c.in_ok-new.ensures one in
    members_listed (g.A.Asker.graph c.args.asker.now) c.args.collection.now c.in_ok-values.values.items c.requires both

pub returns-in_err-chain-clause-counted : goal.returns-in_err-chain-clause-counted
returns-in_err-chain-clause-counted g c =
    hands_none (HasMember (g.A.Asker.graph c.args.asker.now) c.args.collection.now) (g.A.Asker.count c.args.asker.now)

pub returns-in_err-new-clause-counted : goal.returns-in_err-new-clause-counted
returns-in_err-new-clause-counted g c =
    hands_none (HasMember (g.A.Asker.graph c.args.asker.now) c.args.collection.now) (g.A.Asker.count c.args.asker.now)

pub returns-in_err-values-clause-counted : goal.returns-in_err-values-clause-counted
returns-in_err-values-clause-counted g c =
    member_rows (g.A.Asker.graph c.args.asker.now) c.args.collection.now (g.A.Asker.count c.args.asker.now) (g.A.Asker.count c.targets_of.new.asker) (subst (λ (k : Chain). CountsAtMost (IsRow (g.A.Asker.graph c.args.asker.now) k) (g.A.Asker.count c.args.asker.now) (g.A.Asker.count c.targets_of.new.asker)) c.in_ok-chain.ensures c.in_err-values.ensures.counted)

pub returns-clause-counted : goal.returns-clause-counted
returns-clause-counted g c =
    member_rows (g.A.Asker.graph c.args.asker.now) c.args.collection.now (g.A.Asker.count c.args.asker.now) (g.A.Asker.count c.targets_of.new.asker) (subst (λ (k : Chain). CountsAtMost (IsRow (g.A.Asker.graph c.args.asker.now) k) (g.A.Asker.count c.args.asker.now) (g.A.Asker.count c.targets_of.new.asker)) c.in_ok-chain.ensures c.in_ok-values.ensures.counted)
