use Rattle.std.proofs.Common.{◌≡◌, ◌+◌, drop}
use Rattle.std.specs.Prelude.{map, option_copied}
use Rattle.struql_ast.specs.Reading.{term_of}
use Rattle.query_blocks.specs.Blocks.{scope_of}
use Rattle.constraint_spec.specs.Placed.{Mention}
use Rattle.constraint_recheck.specs.Options.{first_of, tried_until}
use Rattle.certificate_search.specs.Links.{numbered_of}
use Rattle.certificate_search.specs.Uses.{ends_at, asked_use, asked_tried}
use Rattle.certificate_search.proofs.uses.find_use.Given as goal

abbrev pub invariant-loop-link : goal.invariant-loop-link
invariant-loop-link g l =
    let m : Mention = record { conditions = l.given.conditions; term = term_of l.term } in
    let by = asked_use (g.J.Judge.tests l.query.judge.now) (scope_of l.query.blocks.now) l.label (ends_at (option_copied l.function)) m in
    let tries = asked_tried (g.J.Judge.tests l.query.judge.now) (scope_of l.query.blocks.now) l.label (ends_at (option_copied l.function)) m in
    let links = l.query.links.now in
    (first_of by (map numbered_of (drop l.link-index links)) ≡ first_of by (map numbered_of links))
    × (l.initial.budget + tried_until by tries (map numbered_of (drop l.link-index links)) ≡ l.budget + tried_until by tries (map numbered_of links))
