use Rattle.std.proofs.Common.{◌≡◌, ℕ, ◌++◌, take}
use Rattle.std.specs.Prelude.{map}
use Rattle.std.specs.List.{flat_map}
use Rattle.query_links.specs.Mentions.{mention_of, HaveChains}
use Rattle.counterexample_spec.specs.Candidates.{either_way, mention_graph}
use Rattle.refute_site.specs.Candidates.{candidate_graph, HaveTheirVariables}
use Rattle.refute_site.proofs.candidates.push_mentions.Given as goal

abbrev pub invariant-loop-mention : goal.invariant-loop-mention
invariant-loop-mention l = record {
  graphs :
      map candidate_graph l.found.items
      ≡ map candidate_graph l.initial.found.items ++ flat_map (λ m. either_way (mention_graph (mention_of m))) (take l.mention-index l.mentioned);
  variables : (version : ℕ) → HaveTheirVariables l.initial.found.items → HaveChains version l.mentioned → HaveTheirVariables l.found.items;
}
