use Rattle.std.proofs.Common.{◌≡◌, List, subst, take}
use Rattle.sd_value.specs.declared.Value.{Value}
use Rattle.query_spec.specs.Rows.{value_in}
use Rattle.site_spec.specs.Site.{SomeOf}
use Rattle.site_build.specs.Gains.{Gains}
use Rattle.site_build.proofs.Growing.{gains_nil, gains_next, gains_end}
use Rattle.site_build.proofs.RowReads.{gains_again}
use Rattle.site_build.proofs.made.add_clause.Goals as goal

pub loop-i-init : goal.loop-i-init
loop-i-init g c = gains_nil (λ (row : List Value) m. g.C.Clause.makes c.args.clause.now (value_in c.args.variables.now row) m) _

pub loop-i-preserved-then-is_repeated : goal.loop-i-preserved-then-is_repeated
loop-i-preserved-then-is_repeated g c =
    let width = c.width-width.result in
    gains_next (λ (row : List Value) m. g.C.Clause.makes c.args.clause.now (value_in c.args.variables.now row) m) c.args.rows.now c.loop-i.i c.index-rows-i.result _ c.loop-i.made.keys c.loop-i.made.keys
    c.loop-i-test.true c.index-rows-i.is c.loop-i.invariant
    (gains_again (λ (row : List Value) m. g.C.Clause.makes c.args.clause.now (value_in c.args.variables.now row) m) width (take c.loop-i.i c.args.rows.now) c.index-rows-i.result _ c.loop-i.made.keys c.width-width.ensures
    (subst (λ (row : List Value). SomeOf (λ (other : List Value). take width other ≡ take width row) (take c.loop-i.i c.args.rows.now)) c.values-row.ensures (c.is_repeated.ensures c.if-is_repeated.true))
    c.loop-i.invariant)

pub loop-i-preserved : goal.loop-i-preserved
loop-i-preserved g c =
    gains_next (λ (row : List Value) m. g.C.Clause.makes c.args.clause.now (value_in c.args.variables.now row) m) c.args.rows.now c.loop-i.i c.index-rows-i.result _ c.loop-i.made.keys _
    c.loop-i-test.true c.index-rows-i.is c.loop-i.invariant
    (subst (λ (row : List Value). Gains (λ m. g.C.Clause.makes c.args.clause.now (value_in c.args.variables.now row) m) c.loop-i.made.keys c.add.new.made.keys) c.values-row.ensures c.in_ok-add.ensures)

pub returns : goal.returns
returns g c = gains_end (λ (row : List Value) m. g.C.Clause.makes c.args.clause.now (value_in c.args.variables.now row) m) c.args.rows.now c.loop-i.i _ c.loop-i.made.keys c.loop-i-test.false c.loop-i.invariant
