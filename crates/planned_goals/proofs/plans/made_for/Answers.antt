use Rattle.std.proofs.Common.{sym, ◌∙◌}
use Rattle.planned_goals.proofs.Made.{chain_ready, followed, followed_in_range, made_goals}
use Rattle.planned_goals.proofs.plans.made_for.Goals as goal

pub goals_along-requires-clause-ready : goal.goals_along-requires-clause-ready
goals_along-requires-clause-ready g c = rw c.variables.ensures (chain_ready c.args.chain.now _ c.conditions.ensures c.requires.well_made)

pub invariant_of-result : goal.invariant_of-result
invariant_of-result g c =
    let copies = rw (c.new-conditions.ensures.items) at c.in_ok-push_conditions.ensures in
    rw (c.in_ok-variables.ensures, c.variables-2.ensures)
    (made_goals c.args.chain.now c.conditions.result.now c.push_conditions.new.found.items _ _ c.conditions.ensures (copies ∙ (c.conditions-2.ensures ∙ sym c.conditions.ensures)) c.in_ok-steps.ensures.uses_all
    (rw (c.variables.ensures, c.steps-2.ensures) at c.in_ok-goals.ensures))

pub returns-clause-goals : goal.returns-clause-goals
returns-clause-goals g c =
    followed c.args.chain.now _ _ _ c.conditions.ensures c.in_ok-steps.ensures.uses_all (rw (c.variables.ensures, c.steps-2.ensures) at c.in_ok-goals.ensures)

pub returns-clause-in_range : goal.returns-clause-in_range
returns-clause-in_range g c = followed_in_range c.args.chain.now.variables _ _ _ (rw c.variables.ensures at c.in_ok-goals.ensures)
