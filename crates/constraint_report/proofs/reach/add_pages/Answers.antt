use Rattle.std.proofs.Common.{◌≡◌}
use Rattle.sd_value.specs.declared.Term.{Term}
use Rattle.sd_value.specs.declared.Value.{Value}
use Rattle.sd_value.specs.declared.Value.TheVariants.{Page}
use Rattle.constraint_report.proofs.Adding.{adds_nil, adds_next, adds_end}
use Rattle.constraint_report.proofs.reach.add_pages.Goals as goal

pub loop-value-init : goal.loop-value-init
loop-value-init c = adds_nil (λ (v : Value) (t : Term). v ≡ Page t) c.args.found.now.keys

pub loop-value-preserved : goal.loop-value-preserved
loop-value-preserved c =
    adds_next (λ (v : Value) (t : Term). v ≡ Page t) c.args.values.now c.loop-value.value-index c.value-item.result c.args.found.now.keys c.loop-value.found.keys c.add_page.new.found.keys
    c.loop-value-test.true c.value-item.is c.loop-value.invariant c.in_ok-add_page.ensures

pub returns : goal.returns
returns c = adds_end (λ (v : Value) (t : Term). v ≡ Page t) c.args.values.now c.loop-value.value-index c.args.found.now.keys c.loop-value.found.keys c.loop-value-test.false c.loop-value.invariant
