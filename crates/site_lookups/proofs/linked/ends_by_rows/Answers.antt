use Rattle.std.proofs.Common.{List, subst}
use Rattle.sd_value.specs.declared.Value.{Value}
use Rattle.query_spec.specs.declared.Variable.{Variable}
use Rattle.query_spec.specs.Rows.{value_in, IsAnswer}
use Rattle.struql_ast.specs.Reading.{link_of, target_of}
use Rattle.site_spec.specs.Site.{IsTargetUnder}
use Rattle.weight_spec.proofs.Handing.{hands_none, hands_same}
use Rattle.site_lookups.specs.Counts.{IsLinkRow}
use Rattle.sd_value.specs.Gathered.{Gathered}
use Rattle.site_lookups.specs.Ends.{StartsBy}
use Rattle.site_lookups.proofs.Rows.{some_solves}
use Rattle.site_lookups.proofs.Labels.{link_rows, none_led_to}
use Rattle.site_lookups.proofs.SomeRows.{hands_some, led_to_told}
use Rattle.site_lookups.proofs.linked.ends_by_rows.Goals as goal

pub returns-in_err-bound_by-clause-counted : goal.returns-in_err-bound_by-clause-counted
returns-in_err-bound_by-clause-counted g c =
    hands_none (IsLinkRow (g.A.Asker.graph c.args.asker.now) c.args.chain.now c.args.term.now c.args.label.now (link_of c.args.link.now)) (g.A.Asker.count c.args.asker.now)

pub returns-in-None-clause-counted : goal.returns-in-None-clause-counted
returns-in-None-clause-counted g c =
    hands_none (IsLinkRow (g.A.Asker.graph c.args.asker.now) c.args.chain.now c.args.term.now c.args.label.now (link_of c.args.link.now)) (g.A.Asker.count c.args.asker.now)

pub returns-in_err-rows-in-Some-clause-counted : goal.returns-in_err-rows-in-Some-clause-counted
returns-in_err-rows-in-Some-clause-counted g c =
    hands_same (IsLinkRow (g.A.Asker.graph c.args.asker.now) c.args.chain.now c.args.term.now c.args.label.now (link_of c.args.link.now)) (g.A.Asker.count c.args.asker.now) (g.A.Asker.count c.ask_some.new.self) c.in_err-rows-in-Some.ensures.counted

pub returns-in_err-ends-in-Some-clause-counted : goal.returns-in_err-ends-in-Some-clause-counted
returns-in_err-ends-in-Some-clause-counted g c =
    hands_some c.in_ok-wanted-in-Some.wanted.items (IsAnswer (g.A.Asker.graph c.args.asker.now) c.args.chain.now c.in-Some.bound) (IsLinkRow (g.A.Asker.graph c.args.asker.now) c.args.chain.now c.args.term.now c.args.label.now (link_of c.args.link.now)) c.in_ok-rows-in-Some.rows.items (g.A.Asker.count c.args.asker.now) (g.A.Asker.count c.ask_some.new.self) (rw c.as_slice.ensures.value at c.in_ok-rows-in-Some.ensures.rows) (link_rows (g.A.Asker.graph c.args.asker.now) c.args.chain.now (link_of c.args.link.now) c.args.term.now c.args.label.now c.in-Some.bound (some_solves c.args.chain.now (StartsBy (link_of c.args.link.now) c.args.term.now c.args.label.now) c.variables.result.now c.in_ok-bound_by.field-0 c.in-Some.bound c.variables.ensures c.in-Some.is c.in_ok-bound_by.ensures)) c.in_ok-rows-in-Some.ensures.counted

pub returns-in_ok-ends-in-Some-clause-counted : goal.returns-in_ok-ends-in-Some-clause-counted
returns-in_ok-ends-in-Some-clause-counted g c =
    hands_some c.in_ok-wanted-in-Some.wanted.items (IsAnswer (g.A.Asker.graph c.args.asker.now) c.args.chain.now c.in-Some.bound) (IsLinkRow (g.A.Asker.graph c.args.asker.now) c.args.chain.now c.args.term.now c.args.label.now (link_of c.args.link.now)) c.in_ok-rows-in-Some.rows.items (g.A.Asker.count c.args.asker.now) (g.A.Asker.count c.ask_some.new.self) (rw c.as_slice.ensures.value at c.in_ok-rows-in-Some.ensures.rows) (link_rows (g.A.Asker.graph c.args.asker.now) c.args.chain.now (link_of c.args.link.now) c.args.term.now c.args.label.now c.in-Some.bound (some_solves c.args.chain.now (StartsBy (link_of c.args.link.now) c.args.term.now c.args.label.now) c.variables.result.now c.in_ok-bound_by.field-0 c.in-Some.bound c.variables.ensures c.in-Some.is c.in_ok-bound_by.ensures)) c.in_ok-rows-in-Some.ensures.counted

pub returns-in-None-clause-ends : goal.returns-in-None-clause-ends
returns-in-None-clause-ends g c =
    none_led_to (g.A.Asker.graph c.args.asker.now) c.args.chain.now (link_of c.args.link.now) (target_of c.args.target.now) c.args.term.now c.args.label.now c.variables.result.now c.in_ok-bound_by.field-0 c.new.result.items c.variables.ensures c.in-None.is c.in_ok-bound_by.ensures c.new.ensures.items

pub returns-in_err-wanted-in-Some-clause-counted : goal.returns-in_err-wanted-in-Some-clause-counted
returns-in_err-wanted-in-Some-clause-counted g c =
    hands_none (IsLinkRow (g.A.Asker.graph c.args.asker.now) c.args.chain.now c.args.term.now c.args.label.now (link_of c.args.link.now)) (g.A.Asker.count c.args.asker.now)

pub returns-in_ok-ends-in-Some-clause-ends : goal.returns-in_ok-ends-in-Some-clause-ends
returns-in_ok-ends-in-Some-clause-ends g c =
    let one = subst (λ (vs : List Variable). Gathered (λ (row : List Value) (v : Value). IsTargetUnder (value_in vs row) (target_of c.args.target.now) v) c.as_slice-in-Some.result.now c.in_ok-ends-in-Some.ends.items) c.variables-in-Some-2.ensures c.in_ok-ends-in-Some.ensures in
    let both = subst (λ (rs : List (List Value)). Gathered (λ (row : List Value) (v : Value). IsTargetUnder (value_in c.args.chain.now.variables row) (target_of c.args.target.now) v) rs c.in_ok-ends-in-Some.ends.items) c.as_slice-in-Some.ensures.value one in
    led_to_told (g.A.Asker.graph c.args.asker.now) c.args.chain.now (link_of c.args.link.now) (target_of c.args.target.now) c.args.term.now c.args.label.now c.in_ok-wanted-in-Some.wanted.items c.in-Some.bound c.in_ok-rows-in-Some.rows.items c.in_ok-ends-in-Some.ends.items (some_solves c.args.chain.now (StartsBy (link_of c.args.link.now) c.args.term.now c.args.label.now) c.variables.result.now c.in_ok-bound_by.field-0 c.in-Some.bound c.variables.ensures c.in-Some.is c.in_ok-bound_by.ensures)
    (rw c.variables-in-Some.ensures at c.in_ok-wanted-in-Some.ensures) (rw c.as_slice.ensures.value at c.in_ok-rows-in-Some.ensures.rows) both

pub ask_some-requires-clause-one_flag_each : goal.ask_some-requires-clause-one_flag_each
ask_some-requires-clause-one_flag_each g c = rw (c.as_slice.ensures.value, ← c.variables-in-Some.ensures) c.in_ok-wanted-in-Some.ensures.one_each
