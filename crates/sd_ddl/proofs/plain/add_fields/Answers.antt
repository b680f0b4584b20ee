use Rattle.sd_ddl.specs.Parts.{edge_part}
use Rattle.sd_ddl.proofs.Plainly.{one_added}
use Rattle.sd_ddl.proofs.plain.add_fields.Goals as goal

pub loop-field-preserved : goal.loop-field-preserved
loop-field-preserved c =
    one_added (edge_part c.args.object.now) c.args.fields.now c.args.graph.now c.loop-field.graph
    c.add_field.new.graph c.loop-field.field-index c.field-item.result
    c.loop-field-test.true c.field-item.is c.loop-field.invariant c.in_ok-add_field.ensures
