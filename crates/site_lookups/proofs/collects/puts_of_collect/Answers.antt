use Rattle.struql_ast.specs.Reading.{collect_of}
use Rattle.site_lookups.proofs.Free.{put_same, put_other}
use Rattle.site_lookups.specs.Counts.{IsCollectRow}
use Rattle.weight_spec.proofs.Handing.{hands_none, hands_as}
use Rattle.site_lookups.proofs.Targets.{name_is}
use Rattle.query_spec.specs.Rows.{IsRow}
use Rattle.site_lookups.proofs.collects.puts_of_collect.Goals as goal

pub returns-in_ok-values-clause-values : goal.returns-in_ok-values-clause-values
returns-in_ok-values-clause-values g c = put_same (g.A.Asker.graph c.args.asker.now) c.args.chain.now (collect_of c.args.collect.now) c.args.name.now c.eq.result c.in_ok-values.values.items c.eq.ensures c.if-eq.true c.in_ok-values.ensures.values

pub returns-else-eq-clause-values : goal.returns-else-eq-clause-values
returns-else-eq-clause-values g c = put_other (g.A.Asker.graph c.args.asker.now) c.args.chain.now (collect_of c.args.collect.now) c.args.name.now c.eq.result c.new.result.items c.eq.ensures c.if-eq.false c.new.ensures.items

pub returns-in_err-values-clause-counted : goal.returns-in_err-values-clause-counted
returns-in_err-values-clause-counted g c =
    hands_as (IsRow (g.A.Asker.graph c.args.asker.now) c.args.chain.now) (IsCollectRow (g.A.Asker.graph c.args.asker.now) c.args.chain.now c.args.name.now (collect_of c.args.collect.now)) (g.A.Asker.count c.args.asker.now) (g.A.Asker.count c.targets_of.new.asker) (λ row r. ((name_is c.args.collect.now.collection c.args.name.now c.eq.result c.eq.ensures).0 c.if-eq.true, r)) c.in_err-values.ensures.counted

pub returns-in_ok-values-clause-counted : goal.returns-in_ok-values-clause-counted
returns-in_ok-values-clause-counted g c =
    hands_as (IsRow (g.A.Asker.graph c.args.asker.now) c.args.chain.now) (IsCollectRow (g.A.Asker.graph c.args.asker.now) c.args.chain.now c.args.name.now (collect_of c.args.collect.now)) (g.A.Asker.count c.args.asker.now) (g.A.Asker.count c.targets_of.new.asker) (λ row r. ((name_is c.args.collect.now.collection c.args.name.now c.eq.result c.eq.ensures).0 c.if-eq.true, r)) c.in_ok-values.ensures.counted

pub returns-else-eq-clause-counted : goal.returns-else-eq-clause-counted
returns-else-eq-clause-counted g c =
    hands_none (IsCollectRow (g.A.Asker.graph c.args.asker.now) c.args.chain.now c.args.name.now (collect_of c.args.collect.now)) (g.A.Asker.count c.args.asker.now)
