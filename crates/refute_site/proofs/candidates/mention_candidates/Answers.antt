use Rattle.std.proofs.Common.{List, ◌++◌, sym, ap, ◌∙◌, subst}
use Rattle.std.specs.Prelude.{map}
use Rattle.std.specs.List.{flat_map}
use Rattle.counterexample_spec.specs.Candidates.{either_way, mention_graph}
use Rattle.refute_site.specs.declared.candidate.Candidate.{Candidate}
use Rattle.refute_site.specs.Candidates.{candidate_graph, HasItsVariables, HaveTheirVariables}
use Rattle.query_links.specs.declared.written.Mention.{Mention}
use Rattle.query_links.specs.Mentions.{mention_of, HaveChains}
use Rattle.std.proofs.lemmas.List.Elements.{All-nil}
use Rattle.refute_site.proofs.candidates.mention_candidates.Goals as goal

pub returns-clause-graphs : goal.returns-clause-graphs
returns-clause-graphs c =
    c.in_ok-push_mentions.ensures.graphs
    ∙ ap (λ (l : List Candidate). map candidate_graph l ++ flat_map (λ m. either_way (mention_graph m)) (map mention_of c.deref.result.now)) c.new-found.ensures.items
    ∙ ap (λ (l : List Mention). flat_map (λ m. either_way (mention_graph m)) (map mention_of l)) c.deref.ensures.value
    ∙ ap (flat_map (λ m. either_way (mention_graph m))) c.in_ok-mentioned.ensures.written

pub returns-clause-variables : goal.returns-clause-variables
returns-clause-variables c =
    c.in_ok-push_mentions.ensures.variables c.args.query.now.version
    (subst HaveTheirVariables (sym c.new-found.ensures.items) (All-nil HasItsVariables))
    (subst (HaveChains c.args.query.now.version) (sym c.deref.ensures.value) c.in_ok-mentioned.ensures.chains)
