-- Goals made one by one for the steps of a plan.
use Rattle.std.proofs.Common.{◌≡◌, ℕ, zero, suc, ◌+◌, ◌<◌, ◌≤◌, List, [], ◌∷◌, ◌++◌, length, map, take, add-one, arith, refl, ap, sym, ◌∙◌, inl, inr, subst, get_or}
use Rattle.std.specs.Prelude.{Some, slice_get, Contains, All}
use Rattle.std.specs.List.{AllZip, flat_map}
use Rattle.std.proofs.lemmas.List.Elements.{Contains-append_left, Contains-append_right}
use Rattle.std.proofs.lemmas.Option.{slice_get_within, slice_get-get_or}
use Rattle.sd_value.specs.declared.Value.{Value}
use Rattle.sd_value.specs.Members.{Contains-here}
use Rattle.graph_spec.specs.DataGraph.{DataGraph}
use Rattle.query_spec.specs.declared.Variable.{Variable}
use Rattle.query_spec.specs.Query.{Chain, Operand, variable, constant, PathStep, arc_variable, expression, Condition, member, path, compare, one_of, kind, negation}
use Rattle.query_spec.specs.Mentions.{names, operand_names, step_names, IsDeclared, IsWellMade, IsFlat, condition_positions}
use Rattle.query_spec.specs.Holds.{Holds}
use Rattle.query_spec.specs.Rows.{value_in}
use Rattle.struql_ast.specs.declared.Condition.{Condition as Written}
use Rattle.struql_ast.specs.Reading.{condition_of}
use Rattle.condition_tests.specs.declared.literal.Goal.{Goal}
use Rattle.condition_tests.specs.Meaning.{GoalHolds}
use Rattle.condition_tests.specs.Places.{GoalInRange, GoalsInRange}
use Rattle.condition_tests.specs.Resolved.{IsGoalOf, AreGoalsOf, declared, step_declared}
use Rattle.plan_spec.specs.declared.PlanStep.{PlanStep}
use Rattle.plan_spec.specs.declared.PlanStep.TheVariants.{Use, Domain}
use Rattle.plan_spec.specs.Plan.{Uses, AreStepsOver}
use Rattle.planned_goals.specs.Followed.{AreReady, IsStepOver, IsGoalFor, AreGoalsFor}

zip_more : {X Y : Type 0} (R : X → Y → Type 0) (xs : List X) (ys : List Y) (i : ℕ) (x : X) (y : Y) → slice_get xs i ≡ Some x → AllZip R (take i xs) ys → R x y → AllZip R (take (suc i) xs) (ys ++ y ∷ [])
zip_more R [] ys i x y h z r = cc
zip_more R (a ∷ xs) [] zero x y h z r = (let e : x ≡ a = cc in subst (λ w. R w y) e r, tt)
zip_more R (a ∷ xs) (b ∷ ys) zero x y h z r = absurd z
zip_more R (a ∷ xs) [] (suc i) x y h z r = absurd z
zip_more R (a ∷ xs) (b ∷ ys) (suc i) x y h z r = (z.0, zip_more R xs ys i x y h z.1 r)

zip_each : {X Y : Type 0} (R : X → Y → Type 0) (xs : List X) (ys : List Y) → AllZip R xs ys → (i : ℕ) (x : X) → slice_get xs i ≡ Some x → (y : Y) × (slice_get ys i ≡ Some y) × R x y
zip_each R [] ys z i x h = cc
zip_each R (a ∷ xs) [] z i x h = absurd z
zip_each R (a ∷ xs) (b ∷ ys) z zero x h = (b, refl, (let e : a ≡ x = cc in subst (λ w. R w b) e z.0))
zip_each R (a ∷ xs) (b ∷ ys) z (suc i) x h = zip_each R xs ys z.1 i x h

zip_back : {X Y : Type 0} (R : X → Y → Type 0) (xs : List X) (ys : List Y) → AllZip R xs ys → (i : ℕ) (y : Y) → slice_get ys i ≡ Some y → (x : X) × (slice_get xs i ≡ Some x) × R x y
zip_back R xs [] z i y h = cc
zip_back R [] (b ∷ ys) z i y h = absurd z
zip_back R (a ∷ xs) (b ∷ ys) z zero y h = (a, refl, (let e : b ≡ y = cc in subst (λ w. R a w) e z.0))
zip_back R (a ∷ xs) (b ∷ ys) z (suc i) y h = zip_back R xs ys z.1 i y h

length_map : {X Y : Type 0} (f : X → Y) (xs : List X) → length (map f xs) ≡ length xs
length_map f [] = refl
length_map f (x ∷ xs) = ap suc (length_map f xs)

get_map : {X Y : Type 0} (f : X → Y) (xs : List X) (i : ℕ) (y : Y) → slice_get (map f xs) i ≡ Some y → (x : X) × (slice_get xs i ≡ Some x) × (f x ≡ y)
get_map f [] i y h = cc
get_map f (x ∷ xs) zero y h = (x, refl, cc)
get_map f (x ∷ xs) (suc i) y h = get_map f xs i y h

map_get : {X Y : Type 0} (f : X → Y) (xs : List X) (i : ℕ) (x : X) → slice_get xs i ≡ Some x → slice_get (map f xs) i ≡ Some (f x)
map_get f [] i x h = cc
map_get f (y ∷ xs) zero x h = ap Some (ap f cc)
map_get f (y ∷ xs) (suc i) x h = map_get f xs i x h

over_at : (m n : ℕ) (steps : List PlanStep) (i : ℕ) (step : PlanStep) → AreStepsOver m n steps → slice_get steps i ≡ Some step → IsStepOver m n step
over_at m n [] i step o h = cc
over_at m n (Use j cost ∷ steps) zero step o h = let e : Use j cost ≡ step = cc in subst (IsStepOver m n) e o.0
over_at m n (Domain x cost ∷ steps) zero step o h = let e : Domain x cost ≡ step = cc in subst (IsStepOver m n) e o.0
over_at m n (Use j cost ∷ steps) (suc i) step o h = over_at m n steps i step o.1 h
over_at m n (Domain x cost ∷ steps) (suc i) step o h = over_at m n steps i step o.1 h

pub step_over : (m n : ℕ) (steps : List PlanStep) (i : ℕ) (step : PlanStep) → AreStepsOver m n steps → slice_get steps i ≡ Some step → IsStepOver m n step
step_over = over_at

pub along-none : (variables : List Variable) (written : List Written) → AllZip (IsGoalFor variables written) [] []
along-none variables written = tt

pub along-more : (variables : List Variable) (written : List Written) (steps : List PlanStep) (goals : List Goal) (i : ℕ) (step : PlanStep) (g : Goal) → slice_get steps i ≡ Some step
    → AllZip (IsGoalFor variables written) (take i steps) goals → IsGoalFor variables written step g → AllZip (IsGoalFor variables written) (take (i + 1) steps) (goals ++ g ∷ [])
along-more variables written steps goals i step g h z r = rw add-one (zip_more (IsGoalFor variables written) steps goals i step g h z r)

-- the step that uses a condition
used_at : (steps : List PlanStep) (i : ℕ) → Uses steps i → (j : ℕ) × (cost : ℕ) × (slice_get steps j ≡ Some (Use i cost))
used_at [] i u = absurd u
used_at (Use k cost ∷ steps) i (inl e) = (zero, cost, ap (λ n. Some (Use n cost)) e)
used_at (Use k cost ∷ steps) i (inr u) = let r = used_at steps i u in (suc r.0, r.1, r.2)
used_at (Domain x cost ∷ steps) i u = let r = used_at steps i u in (suc r.0, r.1, r.2)

goal_says : (c : Chain) (written : List Written) → map condition_of written ≡ c.conditions → (step : PlanStep) (g : Goal) → IsGoalFor c.variables written step g → (G : DataGraph) (t : List Value) → length t ≡ length c.variables
    → ((i : ℕ) (k : Condition) → slice_get c.conditions i ≡ Some k → Holds G c.version k (value_in c.variables t)) → GoalHolds G c.version g t
goal_says c written e (Use i cost) g r G t l all =
    let here : slice_get c.conditions i ≡ Some (condition_of r.0) = subst (λ ks. slice_get ks i ≡ Some (condition_of r.0)) e (map_get condition_of written i r.0 r.1) in
    ((r.2 c.version).says G t l).1 (all i (condition_of r.0) here)
goal_says c written e (Domain x cost) g r G t l all = subst (λ h. GoalHolds G c.version h t) (sym r.0) tt

pub followed : (c : Chain) (written : List Written) (steps : List PlanStep) (goals : List Goal) → map condition_of written ≡ c.conditions → ((i : ℕ) → i < length c.conditions → Uses steps i)
    → AllZip (IsGoalFor c.variables written) steps goals → AreGoalsOf c goals
followed c written steps goals e uses z = record {
  each = λ k i h.
      (let at = used_at steps i (uses i (slice_get_within c.conditions i k h)) in
      let g = zip_each (IsGoalFor c.variables written) steps goals z at.0 (Use i at.1) at.2 in
      let here : slice_get c.conditions i ≡ Some (condition_of g.2.0) = subst (λ ks. slice_get ks i ≡ Some (condition_of g.2.0)) e (map_get condition_of written i g.2.0 g.2.1) in
      let same : condition_of g.2.0 ≡ k = cc in
      (at.0, g.0, g.1, subst (λ q. IsGoalOf c.version c.variables q g.0) same (g.2.2 c.version).says));
  no_more = λ g j h G t l all.
      (let w = zip_back (IsGoalFor c.variables written) steps goals z j g h in
      goal_says c written e w.0 g w.2 G t l all);
}

goal_in_range : (variables : List Variable) (written : List Written) (step : PlanStep) (g : Goal) → IsGoalFor variables written step g → GoalInRange (length variables) g
goal_in_range variables written (Use i cost) g r = (r.2 1).in_range
goal_in_range variables written (Domain x cost) g r = subst (GoalInRange (length variables)) (sym r.0) r.1

pub followed_in_range : (variables : List Variable) (written : List Written) (steps : List PlanStep) (goals : List Goal) → AllZip (IsGoalFor variables written) steps goals → GoalsInRange (length variables) goals
followed_in_range variables written steps goals z = λ j g h. (let w = zip_back (IsGoalFor variables written) steps goals z j g h in goal_in_range variables written w.0 g w.2)

-- the goals along a plan stand for copies of the conditions, whatever chain has them
pub made_goals : (c : Chain) (written copies : List Written) (steps : List PlanStep) (goals : List Goal) → map condition_of written ≡ c.conditions → map condition_of copies ≡ map condition_of written
    → ((i : ℕ) → i < length c.conditions → Uses steps i) → AllZip (IsGoalFor c.variables written) steps goals → AreGoalsFor c.variables copies goals
made_goals c written copies steps goals e same uses z = record {
  stand = λ d vs cs.
      (let back : c.conditions ≡ d.conditions = sym e ∙ (sym same ∙ cs) in
      followed d written steps goals (sym same ∙ cs) (subst (λ ks. (i : ℕ) → i < length ks → Uses steps i) back uses) (subst (λ v. AllZip (IsGoalFor v written) steps goals) (sym vs) z));
  in_range = followed_in_range c.variables written steps goals z;
}

-- each name that a condition of the chain has is a variable's
module _ (variables : List Variable) where
  operand_named : (t : Operand) → ((x : List ℕ) → Contains (operand_names t) x → Contains (map (λ v. v.name) variables) x) → IsDeclared variables t
  operand_named (variable x) h = h x (Contains-here x [])
  operand_named (constant v) h = tt

  step_named : (s : PathStep) → ((x : List ℕ) → Contains (step_names s) x → Contains (map (λ v. v.name) variables) x) → step_declared variables s
  step_named (arc_variable x) h = h x (Contains-here x [])
  step_named (expression r) h = tt

  pub named : (k : Condition) → ((x : List ℕ) → Contains (names k) x → Contains (map (λ v. v.name) variables) x) → declared variables k
  named (member c x) h = h x (Contains-here x [])
  named (path t s u) h = (
    operand_named t (λ x c. h x (Contains-append_left (operand_names t ++ step_names s) (operand_names u) x (Contains-append_left (operand_names t) (step_names s) x c))),
    step_named s (λ x c. h x (Contains-append_left (operand_names t ++ step_names s) (operand_names u) x (Contains-append_right (operand_names t) (step_names s) x c))),
    operand_named u (λ x c. h x (Contains-append_right (operand_names t ++ step_names s) (operand_names u) x c)),
  )
  named (compare t op u) h = (operand_named t (λ x c. h x (Contains-append_left (operand_names t) (operand_names u) x c)), operand_named u (λ x c. h x (Contains-append_right (operand_names t) (operand_names u) x c)))
  named (one_of t vs) h = operand_named t h
  named (kind test x) h = h x (Contains-here x [])
  named (negation k) h = named k h

in_flat : (ks : List Condition) (i : ℕ) (k : Condition) (x : List ℕ) → slice_get ks i ≡ Some k → Contains (names k) x → Contains (flat_map names ks) x
in_flat [] i k x h c = cc
in_flat (q ∷ ks) zero k x h c = let e : k ≡ q = cc in Contains-append_left (names q) (flat_map names ks) x (subst (λ w. Contains (names w) x) e c)
in_flat (q ∷ ks) (suc i) k x h c = Contains-append_right (names q) (flat_map names ks) x (in_flat ks i k x h c)

get_from_all : (P : Condition → Type 0) (ks : List Condition) → All P ks → (i : ℕ) (k : Condition) → slice_get ks i ≡ Some k → P k
get_from_all P ks h i k e = let l = slice_get_within ks i k e in let at = slice_get-get_or ks i k l in let same : get_or ks i k ≡ k = cc in subst P same (h i k l)

pub chain_ready : (c : Chain) (written : List Written) → map condition_of written ≡ c.conditions → IsWellMade c → AreReady c.variables written
chain_ready c written e w = record {
  each = λ i k h.
      (let here : slice_get c.conditions i ≡ Some (condition_of k) = subst (λ ks. slice_get ks i ≡ Some (condition_of k)) e (map_get condition_of written i k h) in
      record {
        names = named c.variables (condition_of k) (λ x m. w.declared x (in_flat c.conditions i (condition_of k) x here m));
        flat = get_from_all IsFlat c.conditions w.flat i (condition_of k) here;
        small = get_from_all (λ q. condition_positions q ≤ 256) c.conditions w.small i (condition_of k) here;
      });
}

pub length_push : {X : Type 0} (xs : List X) (x : X) → length (xs ++ x ∷ []) ≡ length xs + 1
length_push [] x = refl
length_push (y ∷ xs) x = omega (arith, length_push xs x)
