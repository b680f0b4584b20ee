use Rattle.std.proofs.Common.{List}
use Rattle.sd_value.specs.declared.Value.{Value}
use Rattle.query_spec.specs.Rows.{value_in}
use Rattle.site_spec.specs.Site.{SomeOf}
use Rattle.site_build.proofs.Growing.{gains_nil, gains_next, gains_end, gains_turned}
use Rattle.site_build.proofs.made.add_rows.Goals as goal

pub loop-clause-init : goal.loop-clause-init
loop-clause-init g c = gains_nil (λ k m. SomeOf (λ (row : List Value). g.C.Clause.makes k (value_in c.args.variables.now row) m) c.args.rows.now) _

pub loop-clause-preserved : goal.loop-clause-preserved
loop-clause-preserved g c =
    gains_next (λ k m. SomeOf (λ (row : List Value). g.C.Clause.makes k (value_in c.args.variables.now row) m) c.args.rows.now) c.args.clauses.now c.loop-clause.clause-index c.clause-item.result _ c.loop-clause.made.keys _
    c.loop-clause-test.true c.clause-item.is c.loop-clause.invariant c.in_ok-add_clause.ensures

pub returns : goal.returns
returns g c =
    gains_turned (λ (row : List Value) k m. g.C.Clause.makes k (value_in c.args.variables.now row) m) c.args.rows.now c.args.clauses.now _ c.loop-clause.made.keys
    (gains_end (λ k m. SomeOf (λ (row : List Value). g.C.Clause.makes k (value_in c.args.variables.now row) m) c.args.rows.now) c.args.clauses.now c.loop-clause.clause-index _ c.loop-clause.made.keys c.loop-clause-test.false c.loop-clause.invariant)
