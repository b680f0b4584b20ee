use Rattle.std.proofs.Common.{◌<◌, length, arith}
use Rattle.std.proofs.lemmas.Option.{slice_get_within}
use Rattle.planner.proofs.Best.{costly_next}
use Rattle.planner.proofs.Done.{next_domain}
use Rattle.planner.proofs.steps.advance.Goals as goal

pub best-requires-clause-costly_before : goal.best-requires-clause-costly_before
best-requires-clause-costly_before c = rw (c.as_slice.ensures.value, c.as_slice-2.ensures.value) c.requires.costly_before

pub look_from-requires-clause-within : goal.look_from-requires-clause-within
look_from-requires-clause-within c = slice_get_within c.args.shapes.now _ _ c.in-Some.ensures.can.stands

pub use_condition-requires-clause-within : goal.use_condition-requires-clause-within
use_condition-requires-clause-within c = slice_get_within c.args.shapes.now _ _ c.in-Some.ensures.can.stands

pub overflow_cast-result : goal.overflow_cast-result
overflow_cast-result c =
    let within : c.in-Some.next.condition < length c.args.shapes.now = slice_get_within c.args.shapes.now _ _ c.in-Some.ensures.can.stands in
    search (arith, within, c.requires.few_conditions)

pub returns-in-Some-clause-costly_before : goal.returns-in-Some-clause-costly_before
returns-in-Some-clause-costly_before c =
    let best = rw (c.as_slice.ensures.value, c.as_slice-2.ensures.value) at c.in-Some.ensures in
    let binds = c.use_condition.ensures.bound in
    costly_next _ _ _ _ _ _ _ _ _ binds.shape best binds.stands c.use_condition.ensures.used binds.binds (rw (c.as_slice-in-Some.ensures.value) at c.look_from.ensures)

pub returns-clause-step : goal.returns-clause-step
returns-clause-step c = next_domain _ _ _ _ _ _ _ c.requires.in_range c.requires.as_long (rw (c.as_slice.ensures.value, c.as_slice-2.ensures.value) at c.in_default.ensures) c.take_domain.ensures.step
