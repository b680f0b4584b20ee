use Rattle.std.proofs.Common.{List}
use Rattle.sd_value.specs.declared.Term.{Term}
use Rattle.sd_value.specs.declared.Value.{Value}
use Rattle.query_spec.specs.Query.{SkolemTerm}
use Rattle.query_spec.specs.Rows.{value_in}
use Rattle.struql_ast.specs.declared.Collect.{Collect}
use Rattle.struql_ast.specs.Reading.{collect_of}
use Rattle.site_spec.specs.Site.{SomeOf, IsTermUnder, target_terms}
use Rattle.site_build.proofs.Growing.{gains_nil, gains_next, gains_end, gains_turned}
use Rattle.site_build.proofs.Written.{NamedBy}
use Rattle.site_build.proofs.terms.add_collect_terms.Goals as goal

pub loop-collect-init : goal.loop-collect-init
loop-collect-init c = gains_nil (λ (k : Collect) (p : Term). NamedBy c.args.variables.now c.args.rows.now (target_terms (collect_of k).target) p) _

pub add_target-requires : goal.add_target-requires
add_target-requires c = λ p s. c.loop-collect.invariant.kept p (c.requires p s)

pub loop-collect-preserved : goal.loop-collect-preserved
loop-collect-preserved c =
    gains_next (λ (k : Collect) (p : Term). NamedBy c.args.variables.now c.args.rows.now (target_terms (collect_of k).target) p) c.args.collects.now c.loop-collect.collect-index c.collect-item.result _ c.loop-collect.made.keys _
    c.loop-collect-test.true c.collect-item.is c.loop-collect.invariant c.in_ok-add_target.ensures

pub returns : goal.returns
returns c =
    gains_turned (λ (row : List Value) (k : Collect) (p : Term). SomeOf (λ (t : SkolemTerm). IsTermUnder (value_in c.args.variables.now row) t p) (target_terms (collect_of k).target)) c.args.rows.now c.args.collects.now _ c.loop-collect.made.keys
    (gains_end (λ (k : Collect) (p : Term). NamedBy c.args.variables.now c.args.rows.now (target_terms (collect_of k).target) p) c.args.collects.now c.loop-collect.collect-index _ c.loop-collect.made.keys c.loop-collect-test.false c.loop-collect.invariant)
