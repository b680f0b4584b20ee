-- What the entries of a trial state, one entry more.
use Rattle.std.proofs.Common.{◌≡◌, ℕ, ◌+◌, [], ◌∷◌, ◌++◌, flat_map, add-one, sym, ap, ◌∙◌}
use Rattle.std.proofs.lemmas.Grind.{flat_map-append, fold-append}
use Rattle.std.proofs.lemmas.List.{append-nil}
use Rattle.graph_spec.specs.DataGraph.{DataGraph}
use Rattle.graph_spec.specs.Statement.{graph_with, with_all, empty_graph}
use Rattle.trial_spec.specs.declared.Entry.{Entry}
use Rattle.trial_spec.specs.Data.{below, next, entry, entry_after, state_at, statements}

more_stated : (entries made : ℕ) (graph : DataGraph)
    → with_all graph (flat_map (λ n. statements (entry entries n)) (below (made + 1)))
    ≡ with_all (with_all graph (flat_map (λ n. statements (entry entries n)) (below made))) (statements (entry entries made))
more_stated entries made graph =
    ap (λ n. with_all graph (flat_map (λ m. statements (entry entries m)) (below n))) (add-one made)
    ∙ ap (with_all graph) (flat_map-append (λ n. statements (entry entries n)) (below made) (made ∷ [])
    ∙ ap (λ s. flat_map (λ n. statements (entry entries n)) (below made) ++ s) (append-nil (statements (entry entries made))))
    ∙ fold-append (λ G s. graph_with s G) graph (flat_map (λ n. statements (entry entries n)) (below made)) (statements (entry entries made))

pub more_state : (entries made before after : ℕ) → before ≡ state_at entries made → after ≡ next (next (next before))
    → after ≡ state_at entries (made + 1)
more_state entries made before after invariant is = is ∙ ap (λ s. next (next (next s))) invariant ∙ ap (state_at entries) (sym (add-one made))

pub more_graph : (entries made state : ℕ) (old new : DataGraph) (e : Entry) → state ≡ state_at entries made
    → old ≡ with_all empty_graph (flat_map (λ n. statements (entry entries n)) (below made))
    → e ≡ entry_after state (made + 1) → new ≡ with_all old (statements e)
    → new ≡ with_all empty_graph (flat_map (λ n. statements (entry entries n)) (below (made + 1)))
more_graph entries made state old new e stands invariant is added =
    added ∙ ap (λ G. with_all G (statements e)) invariant
    ∙ ap (λ x. with_all (with_all empty_graph (flat_map (λ n. statements (entry entries n)) (below made))) (statements x))
    (is ∙ ap (λ s. entry_after s (made + 1)) stands)
    ∙ sym (more_stated entries made empty_graph)
