use Rattle.std.proofs.Common.{◌≡◌, ◌++◌, take}
use Rattle.std.specs.Prelude.{map}
use Rattle.std.specs.List.{flat_map}
use Rattle.query_blocks.specs.Blocks.{body_of}
use Rattle.constraint_spec.specs.Placed.{body_links}
use Rattle.constraint_recheck.specs.Recheck.{may_carry}
use Rattle.refute_site.specs.Candidates.{candidate_graph, HaveTheirVariables}
use Rattle.refute_site.specs.Links.{frozen_links}
use Rattle.refute_site.proofs.candidates.push_links.Given as goal

abbrev pub invariant-loop-block : goal.invariant-loop-block
invariant-loop-block g l = record {
  graphs :
      map candidate_graph l.found.items
      ≡ map candidate_graph l.initial.found.items
      ++ flat_map (λ b. frozen_links (may_carry (g.J.Judge.tests l.judge) l.query.version l.function l.asked) l.twice l.label (body_links (body_of b))) (take l.block-index l.query.blocks.items);
  variables : HaveTheirVariables l.initial.found.items → HaveTheirVariables l.found.items;
}
