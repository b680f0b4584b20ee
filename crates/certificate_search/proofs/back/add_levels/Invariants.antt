use Rattle.std.proofs.Common.{◌≡◌, ◌+◌, ◌-◌, ◌≤◌, length}
use Rattle.std.specs.Prelude.{map}
use Rattle.query_blocks.specs.Blocks.{scope_of}
use Rattle.constraint_recheck.specs.Search.{levels, levels_tried}
use Rattle.certificate_search.specs.Reaching.{reached_of}
use Rattle.certificate_search.proofs.back.add_levels.Given as goal

abbrev pub invariant-loop-level : goal.invariant-loop-level
invariant-loop-level g l =
    let all = levels (g.J.Judge.tests l.query.judge.now) (scope_of l.query.blocks.now) l.given.conditions in
    let tries = levels_tried (g.J.Judge.tests l.query.judge.now) (scope_of l.query.blocks.now) l.given.conditions in
    record {
      all : all (length l.query.links.now - l._level) l.place (map reached_of l.seen.items) ≡ all (length l.query.links.now) 0 (map reached_of l.initial.seen.items);
      place : l.place ≤ length l.seen.items;
      spent : l.initial.budget + tries (length l.query.links.now - l._level) l.place (map reached_of l.seen.items) ≡ l.budget + tries (length l.query.links.now) 0 (map reached_of l.initial.seen.items);
    }
