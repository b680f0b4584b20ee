use Rattle.std.proofs.Common.{sym, ◌∙◌, arith}
use Rattle.std.specs.Prelude.{map}
use Rattle.query_blocks.specs.Blocks.{scope_of}
use Rattle.certificate_search.specs.Links.{numbered_of}
use Rattle.certificate_search.specs.Reaching.{reached_of}
use Rattle.certificate_search.proofs.Growing.{sources_stay, other_tried}
use Rattle.certificate_search.proofs.sources.add_sources.Goals as goal

pub returns-then-not-is_of-clause-added : goal.returns-then-not-is_of-clause-added
returns-then-not-is_of-clause-added g c =
    sym
    (sources_stay (g.J.Judge.tests c.args.query.now.judge.now) (scope_of c.args.query.now.blocks.now) c.args.given.now.conditions (reached_of c.args.from.now) (map reached_of c.args.seen.now.items) (numbered_of c.args.link.now)
    (sym c.is_of.ensures ∙ c.if-not-is_of.true))

pub returns-then-not-is_of-clause-spent : goal.returns-then-not-is_of-clause-spent
returns-then-not-is_of-clause-spent g c =
    let none = other_tried (g.J.Judge.tests c.args.query.now.judge.now) (scope_of c.args.query.now.blocks.now) c.args.given.now.conditions (reached_of c.args.from.now) (map reached_of c.args.seen.now.items) (numbered_of c.args.link.now)
    (sym c.is_of.ensures ∙ c.if-not-is_of.true) in
    omega (arith, none)
