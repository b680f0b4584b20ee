use Rattle.std.proofs.Common.{◌-◌, length, subst, sym}
use Rattle.std.proofs.lemmas.List.{take_rest}
use Rattle.sd_value.specs.Names.{Word}
use Rattle.graph_order.specs.Keys.{IsLonger}
use Rattle.graph_order.proofs.Keyed.{longer}
use Rattle.graph_order.proofs.keys.Known.by.Goals as goal

pub before-requires-clause-longer : goal.before-requires-clause-longer
before-requires-clause-longer c =
    let w = c.args.word.now in
    subst (λ (z : Word). IsLonger z c.loop-done.known.word.now) (sym (take_rest w (length w - 1 - c.loop-done.done)))
    (longer w c.loop-done.known.word.now c.loop-done.done c.loop-done-test.true c.loop-done.invariant.2)
