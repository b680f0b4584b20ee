-- The edges from a node are those that its object has, and no edge starts below the one before it.
use Rattle.std.specs.Prelude.{◌≡◌, Bool, true, false, cond, List, [], ◌∷◌, ◌++◌, map, filter, if◌then◌else◌}
use Rattle.std.specs.declared.cmp.Ordering.{Ordering}
use Rattle.std.specs.declared.cmp.Ordering.TheVariants.{Less, Equal, Greater}
use Rattle.std.specs.Ordering.{is_lt, ordering_reverse, ordering_then}
use Rattle.std.specs.List.Sorted.{IsStrictlySortedBy}
use Rattle.std.proofs.Common.{refl, ap, ◌∙◌}
use Rattle.std.proofs.lemmas.List.Elements.{All-from_recursion, All-weaker}
use Rattle.sd_value.specs.Order.{bytes_cmp}
use Rattle.sd_value.specs.OrderLaws.{bytes_cmp-total}
use Rattle.graph_spec.specs.Orders.{edge_cmp}
use Rattle.graph_spec.specs.declared.Edge.{Edge}
use Rattle.graph_spec.specs.declared.Step.{Step}
use Rattle.sd_ddl.specs.Kinds.{Name, same_name}
use Rattle.sd_ddl.specs.Groups.{start_is, Rises}
use Rattle.sd_ddl.specs.Written.{step_of, steps_out}

one_edge : (b : Bool) (e : Edge) (es : List Edge) (ss : List Step) → map step_of es ≡ ss → map step_of (cond b (e ∷ es) es) ≡ (if b then step_of e ∷ [] else []) ++ ss
one_edge true e es ss h = ap (λ xs. step_of e ∷ xs) h
one_edge false e es ss h = h

pub steps_of_own : (n : Name) (es : List Edge) → map step_of (filter (start_is n) es) ≡ steps_out es n
steps_of_own n [] = refl
steps_of_own n (e ∷ es) = one_edge (same_name e.from n) e (filter (start_is n) es) (steps_out es n) (steps_of_own n es)

-- an edge above another does not start below it
first_counts : (p q : Ordering) → ordering_then p q ≡ Less → is_lt (ordering_reverse p) ≡ false
first_counts Less q h = refl
first_counts Equal q h = refl
first_counts Greater q h = cc

starts_rise : (d e : Edge) → edge_cmp d e ≡ Less → is_lt (bytes_cmp e.from d.from) ≡ false
starts_rise d e h = ap is_lt (bytes_cmp-total.antisymm e.from d.from) ∙ first_counts (bytes_cmp d.from e.from) _ h

pub edges_rise : (es : List Edge) → IsStrictlySortedBy edge_cmp es → Rises (λ (e : Edge). e.from) es
unfolding IsStrictlySortedBy
edges_rise [] up = tt
edges_rise (d ∷ es) up = (All-weaker (λ e. edge_cmp d e ≡ Less) (λ e. is_lt (bytes_cmp e.from d.from) ≡ false) (starts_rise d) es (All-from_recursion (λ e. edge_cmp d e ≡ Less) es up.0), edges_rise es up.1)
