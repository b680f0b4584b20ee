use Rattle.std.proofs.Common.{◌≡◌, sym, subst, ◌∷◌}
use Rattle.std.specs.Prelude.{IfOk, map}
use Rattle.std.specs.Global.{Vec}
use Rattle.std.proofs.lemmas.Result.{IfOk-weaker}
use Rattle.query_blocks.specs.Blocks.{scope_of}
use Rattle.constraint_spec.specs.declared.Constraint.{Constraint}
use Rattle.counterexample_spec.specs.Candidates.{AreCandidates, mention_graphs, link_graphs}
use Rattle.counterexample_spec.specs.Frozen.{empty_graph}
use Rattle.refute_site.specs.declared.candidate.Candidate.{Candidate}
use Rattle.refute_site.specs.Candidates.{candidate_graph}
use Rattle.refute_site.specs.Links.{AreLinkGraphs, one_graphs}
use Rattle.refute_site.proofs.Frozen.{of_mentions, of_links}
use Rattle.refute_site.proofs.candidates.candidates_of.Goals as goal

pub returns-in-Reachable-clause-graphs : goal.returns-in-Reachable-clause-graphs
returns-in-Reachable-clause-graphs c =
    let q = scope_of c.args.query.now in
    subst (λ (k : Constraint). IfOk c.mention_candidates.result (λ (found : Vec Candidate). AreCandidates q k (empty_graph ∷ map candidate_graph found.items))) (sym c.in-Reachable.is)
    (IfOk-weaker c.mention_candidates.result (λ (found : Vec Candidate). map candidate_graph found.items ≡ mention_graphs q c.in-Reachable.function) _
    (λ found e. of_mentions q c.in-Reachable.function (map candidate_graph found.items) e) c.mention_candidates.ensures.graphs)

pub returns-in-Each-clause-graphs : goal.returns-in-Each-clause-graphs
returns-in-Each-clause-graphs c =
    let q = scope_of c.args.query.now in
    subst (λ (k : Constraint). IfOk c.mention_candidates-in-Each.result (λ (found : Vec Candidate). AreCandidates q k (empty_graph ∷ map candidate_graph found.items))) (sym c.in-Each.is)
    (IfOk-weaker c.mention_candidates-in-Each.result (λ (found : Vec Candidate). map candidate_graph found.items ≡ mention_graphs q c.in-Each.function) _
    (λ found e. of_mentions q c.in-Each.function (map candidate_graph found.items) e) c.mention_candidates-in-Each.ensures.graphs)

pub returns-in-Only-clause-graphs : goal.returns-in-Only-clause-graphs
returns-in-Only-clause-graphs c =
    let q = scope_of c.args.query.now in
    subst (λ (k : Constraint). IfOk c.link_candidates.result (λ (found : Vec Candidate). AreCandidates q k (empty_graph ∷ map candidate_graph found.items))) (sym c.in-Only.is)
    (IfOk-weaker c.link_candidates.result (λ (found : Vec Candidate). AreLinkGraphs q c.in-Only.function c.in-Only.label (link_graphs c.in-Only.label) (map candidate_graph found.items)) _
    (λ found e. of_links q c.in-Only.function c.in-Only.label (link_graphs c.in-Only.label) (map candidate_graph found.items) e) c.link_candidates.ensures.graphs)

pub returns-in-Never-clause-graphs : goal.returns-in-Never-clause-graphs
returns-in-Never-clause-graphs c =
    let q = scope_of c.args.query.now in
    subst (λ (k : Constraint). IfOk c.link_candidates-in-Never.result (λ (found : Vec Candidate). AreCandidates q k (empty_graph ∷ map candidate_graph found.items))) (sym c.in-Never.is)
    (IfOk-weaker c.link_candidates-in-Never.result (λ (found : Vec Candidate). AreLinkGraphs q c.in-Never.function c.in-Never.label (link_graphs c.in-Never.label) (map candidate_graph found.items)) _
    (λ found e. of_links q c.in-Never.function c.in-Never.label (link_graphs c.in-Never.label) (map candidate_graph found.items) e) c.link_candidates-in-Never.ensures.graphs)

pub returns-in-One-clause-graphs : goal.returns-in-One-clause-graphs
returns-in-One-clause-graphs c =
    let q = scope_of c.args.query.now in
    subst (λ (k : Constraint). IfOk c.all_candidates.result (λ (found : Vec Candidate). AreCandidates q k (empty_graph ∷ map candidate_graph found.items))) (sym c.in-One.is)
    (IfOk-weaker c.all_candidates.result (λ (found : Vec Candidate). AreLinkGraphs q c.in-One.function c.in-One.label (one_graphs q c.in-One.function c.in-One.label) (map candidate_graph found.items)) _
    (λ found e. of_links q c.in-One.function c.in-One.label (one_graphs q c.in-One.function c.in-One.label) (map candidate_graph found.items) e) c.all_candidates.ensures.graphs)
