use Rattle.std.proofs.Common.{◌≡◌, drop}
use Rattle.query_blocks.specs.Blocks.{scope_of}
use Rattle.struql_ast.specs.Reading.{term_of}
use Rattle.constraint_recheck.specs.Recheck.{lead_back}
use Rattle.tests_certificates.proofs.uses.leads_back.Given as goal

abbrev pub invariant-loop-step : goal.invariant-loop-step
invariant-loop-step g l =
    let leads = lead_back (g.J.Judge.tests l.tested.judge.now) (scope_of l.tested.query.now) l.root l.given.conditions in
    leads (term_of l.at) (drop l.step-index l.uses) ≡ leads (term_of l.fn.term) l.uses
