use Rattle.std.proofs.Common.{[]}
use Rattle.sd_value.specs.Members.{Contains-here}
use Rattle.struql_ast.specs.Reading.{term_of}
use Rattle.struql_ast.specs.Reading.{target_of}
use Rattle.std.proofs.Common.{ap}
use Rattle.site_lookups.specs.Counts.{HasFunction, IsTermOf}
use Rattle.weight_spec.proofs.Handing.{hands_none, hands_as}
use Rattle.site_lookups.proofs.named.target_named.Goals as goal

pub is_named-requires-clause-declared : goal.is_named-requires-clause-declared
is_named-requires-clause-declared g c = c.requires.declared (term_of c.in-Made.written) (rw c.in-Made.is (Contains-here (term_of c.in-Made.written) []))

pub returns-in-Plain-clause-counted : goal.returns-in-Plain-clause-counted
returns-in-Plain-clause-counted g c =
    hands_none (IsTermOf c.args.term.now (target_of c.args.target.now)) (g.A.Asker.count c.args.asker.now)

pub returns-in_err-found-in-Made-clause-counted : goal.returns-in_err-found-in-Made-clause-counted
returns-in_err-found-in-Made-clause-counted g c =
    hands_as (HasFunction c.args.term.now c.in-Made.written) (IsTermOf c.args.term.now (target_of c.args.target.now)) (g.A.Asker.count c.args.asker.now) (g.A.Asker.count c.is_named.new.asker) (λ x h. (term_of c.in-Made.written, ap target_of c.in-Made.is, h)) c.in_err-found-in-Made.ensures.counted

pub returns-in_ok-found-in-Made-clause-counted : goal.returns-in_ok-found-in-Made-clause-counted
returns-in_ok-found-in-Made-clause-counted g c =
    hands_as (HasFunction c.args.term.now c.in-Made.written) (IsTermOf c.args.term.now (target_of c.args.target.now)) (g.A.Asker.count c.args.asker.now) (g.A.Asker.count c.is_named.new.asker) (λ x h. (term_of c.in-Made.written, ap target_of c.in-Made.is, h)) c.in_ok-found-in-Made.ensures.counted
