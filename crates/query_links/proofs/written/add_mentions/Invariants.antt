use Rattle.std.proofs.Common.{◌≡◌, ℕ, [], ◌∷◌, ◌++◌, take}
use Rattle.std.specs.Prelude.{map}
use Rattle.std.specs.List.{flat_map}
use Rattle.query_spec.specs.Mentions.{chain_of}
use Rattle.struql_ast.specs.Reading.{term_of}
use Rattle.query_links.specs.Mentions.{mention_under, mention_of, HaveChains}
use Rattle.query_links.proofs.written.add_mentions.Given as goal

abbrev pub invariant-loop-term : goal.invariant-loop-term
invariant-loop-term l = record {
  written :
      map mention_of l.found.items
      ≡ map mention_of l.initial.found.items ++ flat_map (λ t. mention_under l.chain.conditions (term_of t.now) ∷ []) (take l.term-index l.terms);
  chains : (version : ℕ) → HaveChains version l.initial.found.items → l.chain ≡ chain_of version l.chain.conditions → HaveChains version l.found.items;
}
