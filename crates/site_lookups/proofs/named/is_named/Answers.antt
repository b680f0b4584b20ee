use Rattle.struql_ast.specs.Reading.{term_of}
use Rattle.site_spec.specs.Site.{IsTermUnder, IsNamed}
use Rattle.site_lookups.proofs.Some.{false_is}
use Rattle.site_lookups.proofs.Rows.{none_case, some_case, some_solves}
use Rattle.site_lookups.specs.Counts.{HasFunction}
use Rattle.site_lookups.proofs.Counts.{hands_unit, solved_function}
use Rattle.weight_spec.proofs.Handing.{hands_none, hands_same}
use Rattle.site_lookups.proofs.named.is_named.Goals as goal

pub returns-in-None-clause-answer : goal.returns-in-None-clause-answer
returns-in-None-clause-answer g c =
    false_is (IsNamed (g.A.Asker.graph c.args.asker.now) c.args.chain.now c.args.term.now (term_of c.args.written.now))
    (none_case (g.A.Asker.graph c.args.asker.now) c.args.chain.now (λ s. IsTermUnder s (term_of c.args.written.now) c.args.term.now) c.variables.result.now c.in_ok-matches.field-0 c.variables.ensures c.in-None.is c.in_ok-matches.ensures)

pub returns-in_ok-found-in-Some-clause-answer : goal.returns-in_ok-found-in-Some-clause-answer
returns-in_ok-found-in-Some-clause-answer g c =
    some_case (g.A.Asker.graph c.args.asker.now) c.args.chain.now (λ s. IsTermUnder s (term_of c.args.written.now) c.args.term.now) c.in-Some.bound c.in_ok-found-in-Some.found
    (some_solves c.args.chain.now (λ s. IsTermUnder s (term_of c.args.written.now) c.args.term.now) c.variables.result.now c.in_ok-matches.field-0 c.in-Some.bound c.variables.ensures c.in-Some.is c.in_ok-matches.ensures)
    c.in_ok-found-in-Some.ensures.answer

pub returns-in_err-matches-clause-counted : goal.returns-in_err-matches-clause-counted
returns-in_err-matches-clause-counted g c =
    hands_none (HasFunction c.args.term.now c.args.written.now) (g.A.Asker.count c.args.asker.now)

pub returns-in-None-clause-counted : goal.returns-in-None-clause-counted
returns-in-None-clause-counted g c =
    hands_none (HasFunction c.args.term.now c.args.written.now) (g.A.Asker.count c.args.asker.now)

pub returns-in_err-found-in-Some-clause-counted : goal.returns-in_err-found-in-Some-clause-counted
returns-in_err-found-in-Some-clause-counted g c =
    hands_same (HasFunction c.args.term.now c.args.written.now) (g.A.Asker.count c.args.asker.now) (g.A.Asker.count c.exists.new.self) c.in_err-found-in-Some.ensures.counted

pub returns-in_ok-found-in-Some-clause-counted : goal.returns-in_ok-found-in-Some-clause-counted
returns-in_ok-found-in-Some-clause-counted g c =
    hands_unit (HasFunction c.args.term.now c.args.written.now) (g.A.Asker.count c.args.asker.now) (g.A.Asker.count c.exists.new.self) (solved_function c.args.chain.now.variables (term_of c.args.written.now) c.args.term.now c.in-Some.bound (some_solves c.args.chain.now (λ s. IsTermUnder s (term_of c.args.written.now) c.args.term.now) c.variables.result.now c.in_ok-matches.field-0 c.in-Some.bound c.variables.ensures c.in-Some.is c.in_ok-matches.ensures)) c.in_ok-found-in-Some.ensures.counted
