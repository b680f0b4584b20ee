use Rattle.std.proofs.Common.{◌≡◌, ◌+◌, drop}
use Rattle.std.specs.Prelude.{map}
use Rattle.query_blocks.specs.Blocks.{scope_of}
use Rattle.constraint_recheck.specs.Options.{fold_over, tried_over}
use Rattle.constraint_recheck.specs.Search.{add_links, links_tried}
use Rattle.certificate_search.specs.Reaching.{reached_of}
use Rattle.certificate_search.proofs.Growing.{Grows}
use Rattle.certificate_search.proofs.back.add_level.Given as goal

abbrev pub invariant-loop-from : goal.invariant-loop-from
invariant-loop-from g l =
    let added = add_links (g.J.Judge.tests l.query.judge.now) (scope_of l.query.blocks.now) l.given.conditions in
    let tries = links_tried (g.J.Judge.tests l.query.judge.now) (scope_of l.query.blocks.now) l.given.conditions in
    let first = map reached_of l.initial.seen.items in
    record {
      seen : fold_over added (map reached_of l.seen.items) (drop l.from first) ≡ fold_over added first (drop l.place first);
      grown : Grows first (map reached_of l.seen.items);
      spent : l.initial.budget + tried_over added tries (map reached_of l.seen.items) (drop l.from first) ≡ l.budget + tried_over added tries first (drop l.place first);
    }
