-- Graphs that are tried one after another.
use Rattle.std.proofs.Common.{◌≡◌, ℕ, ◌+◌, ◌<◌, ◌≤◌, List, [], ◌∷◌, ◌++◌, refl, sym, ap, ◌∙◌, subst, length, get_or, take, drop, arith}
use Rattle.std.specs.Borrow.{Bor}
use Rattle.std.specs.Prelude.{All, Option, Some, None, Ok, Err, map}
use Rattle.std.proofs.lemmas.List.{take_more, take_all, take-append-drop, map-append, append_assoc, append-nil}
use Rattle.std.proofs.lemmas.List.Elements.{All-push, All-get_or}
use Rattle.graph_spec.specs.DataGraph.{DataGraph}
use Rattle.graph_spec.specs.Statement.{Statement}
use Rattle.sd_graph.specs.ProgramLimits.{program_limits, IsWithinProgram}
use Rattle.sd_graph.specs.Statement.{Building, IsEmpty, IsWithin}
use Rattle.sd_graph.specs.declared.GraphRefusal.{GraphRefusal}
use Rattle.sd_graph.specs.declared.GraphRefusal.TheVariants.{TooManyNodes, TooManyEdges, NoMemory}
use Rattle.struql_ast.specs.declared.Target.{Target}
use Rattle.struql_ast.specs.Reading.{target_of}
use Rattle.counterexample_spec.specs.Values.{first_copy, second_copy}
use Rattle.counterexample_spec.specs.Candidates.{arguments_of}
use Rattle.counterexample_spec.specs.Frozen.{with_all, empty_graph, stated}
use Rattle.counterexample_spec.specs.First.{IsFirstWithout}
use Rattle.refute_site.specs.Adding.{building_all, AddsAll, IsBuiltWithin}
use Rattle.refute_site.specs.Refuting.{IsRefuting}
use Rattle.refute_site.proofs.Adding.{adds_nothing, adds_both, adds_stopped}
use Rattle.refute_site.specs.declared.candidate.Candidate.{Candidate}
use Rattle.refute_site.specs.Candidates.{in_copy, stated_beside, all_stated, candidate_graph, HasItsVariables, HaveTheirVariables}

-- one of the candidates
pub variables_at : (xs : List Candidate) (i : ℕ) (x : Candidate) → i < length xs → x ≡ get_or xs i x → HaveTheirVariables xs → HasItsVariables x
variables_at xs i x lt is h = let P : Candidate → Type 0 = HasItsVariables in subst P (sym is) (All-get_or P xs i x lt h)

-- what is so of a graph if nothing is found of it, and if it is found
pub none_met : (Fits P : DataGraph → Type 0) (G : DataGraph) (o : Option DataGraph) → o ≡ None → IsRefuting Fits P G o → Fits G → P G
none_met Fits P G None e h = h
none_met Fits P G (Some H) e h = (let no : ⊥ = cc in absurd no)

pub some_met : (Fits P : DataGraph → Type 0) (G H : DataGraph) (o : Option DataGraph) → o ≡ Some H → IsRefuting Fits P G o → (H ≡ G) × Fits G × (P G → ⊥)
some_met Fits P G H o e h = subst (IsRefuting Fits P G) e h

-- an empty graph is the one in which nothing is stated
pub is_empty_graph : (G : DataGraph) → IsEmpty G → G ≡ empty_graph
is_empty_graph G e = λ i. record { nodes = e.0 i; edges = e.1 i; members = e.2 i }

-- and is within the program's limits
pub empty_fits : (G : DataGraph) → IsEmpty G → IsWithinProgram G
empty_fits G e = subst IsWithinProgram (sym (is_empty_graph G e)) (omega arith, omega arith)

joined : (c : Candidate) (source : Option (Bor Target)) → stated (in_copy c first_copy) ++ stated_beside c source ≡ all_stated c source
joined c None = append-nil (stated (in_copy c first_copy))
joined c (Some source) = refl

-- what is beside a copy, by what there is
pub nothing_beside : (c : Candidate) (b : Building) → c.source ≡ None → AddsAll (stated_beside c c.source) b b (Ok tt)
nothing_beside c b none = subst (λ (o : Option (Bor Target)). AddsAll (stated_beside c o) b b (Ok tt)) (sym none) (adds_nothing b)

pub second_beside : (c : Candidate) (source : Bor Target) → c.source ≡ Some source → stated (in_copy c (second_copy (arguments_of (target_of source.now)))) ≡ stated_beside c c.source
second_beside c source some = ap (stated_beside c) (sym some)

-- a candidate's graph that is built from an empty one
module _ (c : Candidate) (E : Building) (limits : E.limits ≡ program_limits) (empty : IsEmpty E.graph) where
  whole : building_all (stated (in_copy c first_copy) ++ stated_beside c c.source) E ≡ record { limits = program_limits; graph = candidate_graph c }
  whole =
      ap (λ (l : List Statement). building_all l E) (joined c c.source)
      ∙ (λ i. record { limits = limits i; graph = with_all (is_empty_graph E.graph empty i) (all_stated c c.source) })

  refused : (d : Building) (e : GraphRefusal) → AddsAll (stated (in_copy c first_copy) ++ stated_beside c c.source) E d (Err e) → IsBuiltWithin (candidate_graph c) (Err e)
  refused d TooManyNodes h = subst (λ (z : Building). ¬ IsWithin z) whole h
  refused d TooManyEdges h = subst (λ (z : Building). ¬ IsWithin z) whole h
  refused d NoMemory h = tt

  -- the first copy is refused
  pub first_refused : (d : Building) (e : GraphRefusal) → AddsAll (stated (in_copy c first_copy)) E d (Err e) → IsBuiltWithin (candidate_graph c) (Err e)
  first_refused d e h = refused d e (adds_stopped (stated (in_copy c first_copy)) (stated_beside c c.source) E d e h)

  -- what is beside it is refused
  pub second_refused : (b d : Building) (e : GraphRefusal) → b ≡ building_all (stated (in_copy c first_copy)) E → AddsAll (stated_beside c c.source) b d (Err e) → IsBuiltWithin (candidate_graph c) (Err e)
  second_refused b d e first h = refused d e (adds_both (stated (in_copy c first_copy)) (stated_beside c c.source) E b d (Err e) first h)

  -- all is added
  pub both_stated : (b d : Building) → b ≡ building_all (stated (in_copy c first_copy)) E → d ≡ building_all (stated_beside c c.source) b → IsWithin d → IsBuiltWithin (candidate_graph c) (Ok d)
  both_stated b d first second within =
      let built : d ≡ record { limits = program_limits; graph = candidate_graph c } = adds_both (stated (in_copy c first_copy)) (stated_beside c c.source) E b d (Ok tt) first second ∙ whole in
      (ap (λ (z : Building). z.graph) built, subst IsWithin built within)

module _ {X : Type 0} (Fits P : DataGraph → Type 0) (g : X → DataGraph) where
  front : (xs : List X) (i : ℕ) (x : X) → i < length xs → x ≡ get_or xs i x → map g (take (i + 1) xs) ≡ map g (take i xs) ++ g x ∷ []
  front xs i x lt is = ap (map g) (take_more xs i x lt ∙ ap (λ z. take i xs ++ z ∷ []) (sym is)) ∙ map-append g (take i xs) (x ∷ [])

  -- one more of which P is so, if it fits
  pub one_more : (xs : List X) (i : ℕ) (x : X) → i < length xs → x ≡ get_or xs i x → All (λ G. Fits G → P G) (map g (take i xs)) → (Fits (g x) → P (g x)) → All (λ G. Fits G → P G) (map g (take (i + 1) xs))
  one_more xs i x lt is all p = subst (All (λ G. Fits G → P G)) (sym (front xs i x lt is)) (All-push (λ G. Fits G → P G) (map g (take i xs)) (g x) all p)

  -- the first that fits of which P isn't so
  pub first_here : (xs : List X) (i : ℕ) (x : X) (H : DataGraph) → i < length xs → x ≡ get_or xs i x → All (λ G. Fits G → P G) (map g (take i xs)) → (H ≡ g x) × Fits (g x) × (P (g x) → ⊥) → IsFirstWithout Fits P (map g xs) (Some H)
  first_here xs i x H lt is all broken =
      (map g (take i xs), map g (drop (i + 1) xs), split, all, subst Fits (sym broken.0) broken.1, λ p. broken.2 (subst P broken.0 p))
    where
      split : map g xs ≡ map g (take i xs) ++ H ∷ map g (drop (i + 1) xs)
      split =
          ap (map g) (sym (take-append-drop (i + 1) xs)) ∙ map-append g (take (i + 1) xs) (drop (i + 1) xs)
          ∙ ap (λ l. l ++ map g (drop (i + 1) xs)) (front xs i x lt is)
          ∙ append_assoc (map g (take i xs)) (g x ∷ []) (map g (drop (i + 1) xs))
          ∙ ap (λ z. map g (take i xs) ++ z ∷ map g (drop (i + 1) xs)) (sym broken.0)

  -- none of all
  pub none_left : (xs : List X) (i : ℕ) → length xs ≤ i → All (λ G. Fits G → P G) (map g (take i xs)) → All (λ G. Fits G → P G) (map g xs)
  none_left xs i le all = subst (λ (l : List X). All (λ G. Fits G → P G) (map g l)) (take_all i xs le) all
