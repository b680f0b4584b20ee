use Rattle.std.proofs.Common.{◌≡◌, ◌+◌, drop}
use Rattle.std.specs.Prelude.{map}
use Rattle.query_blocks.specs.Blocks.{scope_of}
use Rattle.constraint_recheck.specs.Options.{fold_over, tried_over}
use Rattle.constraint_recheck.specs.Search.{add_sources, sources_tried}
use Rattle.certificate_search.specs.Links.{numbered_of}
use Rattle.certificate_search.specs.Reaching.{reached_of}
use Rattle.certificate_search.proofs.back.add_links.Given as goal

abbrev pub invariant-loop-link : goal.invariant-loop-link
invariant-loop-link g l =
    let added = add_sources (g.J.Judge.tests l.query.judge.now) (scope_of l.query.blocks.now) l.given.conditions (reached_of l.from) in
    let tries = sources_tried (g.J.Judge.tests l.query.judge.now) (scope_of l.query.blocks.now) l.given.conditions (reached_of l.from) in
    let links = l.query.links.now in
    (fold_over added (map reached_of l.seen.items) (map numbered_of (drop l.link-index links)) ≡ fold_over added (map reached_of l.initial.seen.items) (map numbered_of links))
    × (l.initial.budget + tried_over added tries (map reached_of l.seen.items) (map numbered_of (drop l.link-index links)) ≡ l.budget + tried_over added tries (map reached_of l.initial.seen.items) (map numbered_of links))
