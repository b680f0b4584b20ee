use Rattle.std.proofs.Common.{◌≡◌, [], ◌∷◌, ◌++◌, take}
use Rattle.std.specs.Prelude.{map}
use Rattle.std.specs.List.{flat_map}
use Rattle.query_spec.specs.Mentions.{variables_of}
use Rattle.constraint_recheck.specs.Recheck.{may_carry}
use Rattle.refute_site.specs.Candidates.{candidate_graph, HaveTheirVariables}
use Rattle.query_links.specs.Links.{placed}
use Rattle.refute_site.specs.Links.{frozen_links}
use Rattle.refute_site.proofs.candidates.push_block.Given as goal

abbrev pub invariant-loop-link : goal.invariant-loop-link
invariant-loop-link g l = record {
  graphs :
      map candidate_graph l.found.items
      ≡ map candidate_graph l.initial.found.items
      ++ flat_map (λ k. frozen_links (may_carry (g.J.Judge.tests l.judge) l.version l.function l.asked) l.twice l.label (placed l.block.chain.conditions k ∷ [])) (take l.link-index l.block.links.items);
  variables : HaveTheirVariables l.initial.found.items → l.block.chain.variables ≡ variables_of l.block.chain.conditions → HaveTheirVariables l.found.items;
}
