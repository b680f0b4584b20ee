use Rattle.std.proofs.Common.{arith}
use Rattle.refute_site.specs.Patterns.{pattern_of}
use Rattle.refute_site.proofs.Chosen.{value_more}
use Rattle.refute_site.proofs.values.values_of.Goals as goal

pub loop-variable-preserved : goal.loop-variable-preserved
loop-variable-preserved c =
    value_more (pattern_of c.args.pattern.now) c.variables-variables.result.now c.loop-variable.variable-index c.variable-item.result c.loop-variable.known.items c.deref.result.now c.push.new.self.items c.in_ok-value.value (omega arith) c.variable-item.is c.loop-variable.invariant c.deref.ensures.value
    c.in_ok-value.ensures c.in_ok-push.ensures.items
