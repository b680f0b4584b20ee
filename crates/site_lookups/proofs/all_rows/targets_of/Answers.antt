use Rattle.std.proofs.Common.{List, subst}
use Rattle.sd_value.specs.declared.Value.{Value}
use Rattle.query_spec.specs.declared.Variable.{Variable}
use Rattle.query_spec.specs.Rows.{value_in, IsRow, IsAnswer}
use Rattle.struql_ast.specs.Reading.{target_of}
use Rattle.site_spec.specs.Site.{IsTargetUnder}
use Rattle.sd_value.specs.Gathered.{Gathered}
use Rattle.weight_spec.proofs.Handing.{hands_none, hands_same}
use Rattle.site_lookups.proofs.Free.{free_at}
use Rattle.site_lookups.proofs.SomeRows.{hands_some, targets_told}
use Rattle.site_lookups.proofs.all_rows.targets_of.Goals as goal

pub ask_some-requires-clause-one_flag_each : goal.ask_some-requires-clause-one_flag_each
ask_some-requires-clause-one_flag_each g c = rw (c.as_slice.ensures.value, ← c.variables-2.ensures) c.in_ok-wanted.ensures.one_each

pub returns-in_err-free-clause-counted : goal.returns-in_err-free-clause-counted
returns-in_err-free-clause-counted g c =
    hands_none (IsRow (g.A.Asker.graph c.args.asker.now) c.args.chain.now) (g.A.Asker.count c.args.asker.now)

pub returns-in_err-wanted-clause-counted : goal.returns-in_err-wanted-clause-counted
returns-in_err-wanted-clause-counted g c =
    hands_none (IsRow (g.A.Asker.graph c.args.asker.now) c.args.chain.now) (g.A.Asker.count c.args.asker.now)

pub returns-in_err-rows-clause-counted : goal.returns-in_err-rows-clause-counted
returns-in_err-rows-clause-counted g c =
    hands_same (IsRow (g.A.Asker.graph c.args.asker.now) c.args.chain.now) (g.A.Asker.count c.args.asker.now) (g.A.Asker.count c.ask_some.new.self) c.in_err-rows.ensures.counted

pub returns-in_err-values-clause-counted : goal.returns-in_err-values-clause-counted
returns-in_err-values-clause-counted g c =
    hands_some c.in_ok-wanted.wanted.items (IsAnswer (g.A.Asker.graph c.args.asker.now) c.args.chain.now c.new-bound.result) (IsRow (g.A.Asker.graph c.args.asker.now) c.args.chain.now) c.in_ok-rows.rows.items (g.A.Asker.count c.args.asker.now) (g.A.Asker.count c.ask_some.new.self) (rw c.as_slice.ensures.value at c.in_ok-rows.ensures.rows) (λ row a. a.is_row) c.in_ok-rows.ensures.counted

pub returns-clause-counted : goal.returns-clause-counted
returns-clause-counted g c =
    hands_some c.in_ok-wanted.wanted.items (IsAnswer (g.A.Asker.graph c.args.asker.now) c.args.chain.now c.new-bound.result) (IsRow (g.A.Asker.graph c.args.asker.now) c.args.chain.now) c.in_ok-rows.rows.items (g.A.Asker.count c.args.asker.now) (g.A.Asker.count c.ask_some.new.self) (rw c.as_slice.ensures.value at c.in_ok-rows.ensures.rows) (λ row a. a.is_row) c.in_ok-rows.ensures.counted

pub returns-clause-values : goal.returns-clause-values
returns-clause-values g c =
    let one = subst (λ (vs : List Variable). Gathered (λ (row : List Value) (v : Value). IsTargetUnder (value_in vs row) (target_of c.args.target.now) v) c.as_slice-2.result.now c.in_ok-values.values.items) c.variables-3.ensures c.in_ok-values.ensures in
    let both = subst (λ (rs : List (List Value)). Gathered (λ (row : List Value) (v : Value). IsTargetUnder (value_in c.args.chain.now.variables row) (target_of c.args.target.now) v) rs c.in_ok-values.values.items) c.as_slice-2.ensures.value one in
    targets_told (g.A.Asker.graph c.args.asker.now) c.args.chain.now (target_of c.args.target.now) c.in_ok-wanted.wanted.items c.new-bound.result c.in_ok-rows.rows.items c.in_ok-values.values.items
    (free_at c.variables.result.now c.args.chain.now.variables c.in_ok-free.free.items c.new-bound.result c.variables.ensures c.new-bound.ensures c.in_ok-free.ensures.free)
    (rw c.variables-2.ensures at c.in_ok-wanted.ensures) (rw c.as_slice.ensures.value at c.in_ok-rows.ensures.rows) both
