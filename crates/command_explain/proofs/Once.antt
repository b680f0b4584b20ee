-- The graph and the query decide the plans, and so the text.
use Rattle.std.proofs.Common.{◌≡◌, ℕ, List, [], ◌∷◌, ◌++◌, length, map, refl, sym, ap, subst, ◌∙◌}
use Rattle.std.specs.Prelude.{Bool, false, Contains}
use Rattle.std.specs.declared.cmp.Ordering.{Ordering}
use Rattle.std.specs.Cmp.{IsTotalOrder}
use Rattle.sd_value.specs.Members.{Contains-here, Contains-there}
use Rattle.sd_value.specs.OrderLaws.{bytes_cmp-total, value_cmp-total}
use Rattle.sd_value.specs.AscendingLaws.{same_list}
use Rattle.store.specs.declared.Sizes.{Sizes}
use Rattle.rpe.specs.Regex.{label, any, empty, seq, alt, star}
use Rattle.graph_spec.specs.DataGraph.{DataGraph}
use Rattle.graph_spec.specs.Orders.{edge_cmp-total}
use Rattle.graph_spec.specs.Steps.{IsCountOf}
use Rattle.query_spec.specs.declared.Variable.{Variable}
use Rattle.query_spec.specs.Query.{Chain, Body, Query, arc_variable, expression, Condition, member, path, compare, one_of, kind, negation}
use Rattle.query_spec.specs.Mentions.{chain_of}
use Rattle.plan_spec.specs.declared.Counts.{Counts}
use Rattle.plan_spec.specs.declared.Kind.TheVariants.{Test, Listed, Edges}
use Rattle.plan_spec.specs.declared.Shape.{Shape}
use Rattle.plan_spec.specs.declared.PlanStep.{PlanStep}
use Rattle.plan_spec.specs.Plan.{IsPlan}
use Rattle.plan_spec.specs.Shape.{number_of, side_of, one, two, shape_of, shapes_of, IsPlanOf, CountsOf}
use Rattle.planner.proofs.Unique.{one_plan}
use Rattle.command_explain.specs.Lines.{block_text}
use Rattle.command_explain.specs.Explained.{AppendsBlock, AreExplained, HasOneExplanation}

count_once : {X : Type 0} (R : X → X → Ordering) (P : X → Type 0) (m n : ℕ) → IsTotalOrder R → IsCountOf R P m → IsCountOf R P n → m ≡ n
count_once R P m n total (xs, h, is) (ys, k, is2) =
    let one : xs ≡ ys = same_list total xs ys h.ascending k.ascending (λ z c. k.complete z (h.sound z c)) (λ z c. h.complete z (k.sound z c)) in
    sym is ∙ (ap length one ∙ is2)

map_same : {A B : Type 0} (f g : A → B) (xs : List A) → ((x : A) → Contains xs x → f x ≡ g x) → map f xs ≡ map g xs
map_same f g [] h = refl
map_same f g (x ∷ xs) h =
    let first = h x (Contains-here x xs) in
    let later = map_same f g xs (λ y c. h y (Contains-there x xs y c)) in
    λ i. first i ∷ later i

-- the variables that a condition binds do not depend on counts
sides_same : (a b : Counts) (version : ℕ) (variables : List Variable) (k : Condition)
    → ((shape_of a version variables k).from ≡ (shape_of b version variables k).from) × ((shape_of a version variables k).arc ≡ (shape_of b version variables k).arc) × ((shape_of a version variables k).to ≡ (shape_of b version variables k).to)
sides_same a b version variables (member collection x) = (refl, refl, refl)
sides_same a b version variables (path t (expression r) u) = (refl, refl, refl)
sides_same a b version variables (path t (arc_variable l) u) = (refl, refl, refl)
sides_same a b version variables (compare t op u) = (refl, refl, refl)
sides_same a b version variables (one_of t constants) = (refl, refl, refl)
sides_same a b version variables (kind test x) = (refl, refl, refl)
sides_same a b version variables (negation k) = sides_same a b version variables k

module _ (G : DataGraph) (c : Chain) (a b : Counts) (first : CountsOf G c a) (other : CountsOf G c b) where
  sizes_same : a.sizes ≡ b.sizes
  sizes_same =
      let nodes : a.sizes.nodes ≡ b.sizes.nodes = first.nodes ∙ sym other.nodes in
      let edges : a.sizes.edges ≡ b.sizes.edges = first.edges ∙ sym other.edges in
      let values = count_once _ _ a.sizes.values b.sizes.values value_cmp-total first.values other.values in
      let labels = count_once _ _ a.sizes.labels b.sizes.labels bytes_cmp-total first.labels other.labels in
      λ i. record { nodes = nodes i; edges = edges i; values = values i; labels = labels i }

  shape_same : (k : Condition) → Contains c.conditions k → shape_of a c.version c.variables k ≡ shape_of b c.version c.variables k
  shape_same (member collection x) h = ap (λ n. one (Listed n) (number_of c.variables x)) (count_once _ _ _ _ value_cmp-total (first.of_collection collection x h) (other.of_collection collection x h))
  shape_same (path t (arc_variable l) u) h =
      ap (λ (sizes : Sizes). record { kind = Edges sizes.edges; from = side_of c.variables t; arc = number_of c.variables l; to = side_of c.variables u }) sizes_same
  shape_same (path t (expression (label l)) u) h =
      ap (λ n. two (Edges n) (side_of c.variables t) (side_of c.variables u)) (count_once _ _ _ _ edge_cmp-total (first.of_label l t u h) (other.of_label l t u h))
  shape_same (path t (expression any) u) h = refl
  shape_same (path t (expression empty) u) h = refl
  shape_same (path t (expression (seq r s)) u) h = refl
  shape_same (path t (expression (alt r s)) u) h = refl
  shape_same (path t (expression (star r)) u) h = refl
  shape_same (compare t op u) h = refl
  shape_same (one_of t constants) h = refl
  shape_same (kind test x) h = refl
  shape_same (negation k) h = let s = sides_same a b c.version c.variables k in λ i. record { kind = Test; from = s.0 i; arc = s.1 i; to = s.2 i }

  shapes_same : shapes_of a c ≡ shapes_of b c
  shapes_same = map_same (shape_of a c.version c.variables) (shape_of b c.version c.variables) c.conditions shape_same

  plan_once : (bound : List Bool) (steps steps2 : List PlanStep) → IsPlanOf a c bound steps → IsPlanOf b c bound steps2 → steps ≡ steps2
  plan_once bound steps steps2 p q =
      let arcs = map (λ (v : Variable). v.arc) c.variables in
      let by_sizes : IsPlan a.sizes arcs (shapes_of b c) bound steps2 = subst (λ (sizes : Sizes). IsPlan sizes arcs (shapes_of b c) bound steps2) (sym sizes_same) q in
      let by_shapes : IsPlan a.sizes arcs (shapes_of a c) bound steps2 = subst (λ (shapes : List Shape). IsPlan a.sizes arcs shapes bound steps2) (sym shapes_same) by_sizes in
      one_plan a.sizes arcs (shapes_of a c) bound steps steps2 p by_shapes

block_once : (G : DataGraph) (path_text : List ℕ) (c : Chain) (text text2 : List ℕ) → AppendsBlock G path_text c [] text → AppendsBlock G path_text c [] text2 → text ≡ text2
block_once G path_text c text text2 (steps, (a, first, p), is) (steps2, (b, other, q), is2) =
    is ∙ (ap (block_text path_text c) (plan_once G c a b first other (map (λ v. false) c.variables) steps steps2 p q) ∙ sym is2)

explained_once : (G : DataGraph) (version : ℕ) (paths : List (List ℕ)) (bodies : List Body) (text text2 : List ℕ) → AreExplained G version paths bodies text → AreExplained G version paths bodies text2 → text ≡ text2
explained_once G version [] [] text text2 is is2 = is ∙ sym is2
explained_once G version [] (b ∷ bodies) text text2 h k = absurd h
explained_once G version (p ∷ paths) [] text text2 h k = absurd h
explained_once G version (p ∷ paths) (b ∷ bodies) text text2 (front, back, one_block, later, is) (front2, back2, one_block2, later2, is2) =
    let fronts = block_once G p (chain_of version b.conditions) front front2 one_block one_block2 in
    let backs = explained_once G version paths bodies back back2 later later2 in
    is ∙ (ap (λ x. x ++ back) fronts ∙ (ap (λ x. front2 ++ x) backs ∙ sym is2))

pub one_explanation : (G : DataGraph) (q : Query) → HasOneExplanation G q
one_explanation G q text other h k = explained_once G q.version _ _ text other h k
