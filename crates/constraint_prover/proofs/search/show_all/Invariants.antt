use Rattle.std.proofs.Common.{◌≡◌, take}
use Rattle.std.specs.Prelude.{Some, map}
use Rattle.query_blocks.specs.Blocks.{scope_of}
use Rattle.query_links.specs.Mentions.{mention_of}
use Rattle.constraint_recheck.specs.Options.{for_each}
use Rattle.constraint_prover.specs.Wanted.{shown_by}
use Rattle.constraint_prover.proofs.search.show_all.Given as goal

abbrev pub invariant-loop-mention : goal.invariant-loop-mention
invariant-loop-mention g l =
    for_each (shown_by (g.J.Judge.tests l.query.judge.now) (scope_of l.query.blocks.now) l.wanted) (map mention_of (take l.mention-index l.found)) ≡ Some l.proofs.items
