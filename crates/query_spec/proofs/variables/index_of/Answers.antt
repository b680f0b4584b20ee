use Rattle.std.proofs.lemmas.Option.{slice_get-get_or}
use Rattle.query_spec.proofs.VariableNumbers.{number_here, not_before-more, name_never, names_equal, names_differ}
use Rattle.query_spec.proofs.variables.index_of.Goals as goal

pub returns-then-eq-clause-number : goal.returns-then-eq-clause-number
returns-then-eq-clause-number c = record { same = number_here _ _ _ _ c.loop-i.invariant (slice_get-get_or _ _ c.index-variables-i.result c.loop-i-test.true) (names_equal _ _ _ c.eq.ensures c.if-eq.true) }

pub loop-i-preserved : goal.loop-i-preserved
loop-i-preserved c = not_before-more _ _ _ _ c.loop-i.invariant (slice_get-get_or _ _ c.index-variables-i.result c.loop-i-test.true) (names_differ _ _ _ c.eq.ensures c.if-eq.false)

pub returns-clause-number : goal.returns-clause-number
returns-clause-number c = absurd (name_never _ _ _ c.requires c.loop-i-test.false c.loop-i.invariant)
