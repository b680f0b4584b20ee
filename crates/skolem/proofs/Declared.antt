-- Names that no variable has, and the value of a name.
use Rattle.std.proofs.Common.{◌≡◌, ℕ, ◌+◌, ◌<◌, ◌≤◌, List, [], ◌∷◌, ◌++◌, length, map, take, get_or, sym, ap, ◌∙◌, refl, subst, ⊎_elim}
use Rattle.std.specs.Prelude.{Contains, Option, Some, Bool, true, false, if◌then◌else◌}
use Rattle.std.specs.Bool.{MatchBool}
use Rattle.std.proofs.lemmas.List.{take_more, take_all, map-append}
use Rattle.std.proofs.lemmas.List.Elements.{Contains-push_cases}
use Rattle.sd_value.specs.declared.Value.{Value}
use Rattle.sd_value.specs.Members.{Contains-here, Contains-there, Contains-mapped}
use Rattle.graph_spec.specs.DataGraph.{Name}
use Rattle.query_spec.specs.declared.Variable.{Variable}
use Rattle.query_spec.specs.Mentions.{same_name}
use Rattle.query_spec.specs.Rows.{value_in, IsNumberOf}
use Rattle.skolem.specs.Solved.{HasAt, HasName, Adds, Refutes}
use Rattle.query_spec.proofs.VariableNumbers.{names_equal}

pub undeclared_more : (variables : List Variable) (name : Name) (i : ℕ) (x : Variable) → i < length variables → x ≡ get_or variables i x → (x.name ≡ name → ⊥)
    → (Contains (map (λ (v : Variable). v.name) (take i variables)) name → ⊥) → Contains (map (λ (v : Variable). v.name) (take (i + 1) variables)) name → ⊥
undeclared_more variables name i x l is differs before h =
    let e : take (i + 1) variables ≡ take i variables ++ x ∷ [] = take_more variables i x l ∙ ap (λ (z : Variable). take i variables ++ z ∷ []) (sym is) in
    let m : map (λ (v : Variable). v.name) (take (i + 1) variables) ≡ map (λ (v : Variable). v.name) (take i variables) ++ x.name ∷ [] = ap (map (λ (v : Variable). v.name)) e ∙ map-append (λ (v : Variable). v.name) (take i variables) (x ∷ []) in
    ⊎_elim before differs (Contains-push_cases (map (λ (v : Variable). v.name) (take i variables)) x.name name (subst (λ (l : List Name). Contains l name) m h))

pub undeclared_all : (variables : List Variable) (name : Name) (i : ℕ) → length variables ≤ i → (Contains (map (λ (v : Variable). v.name) (take i variables)) name → ⊥) → Contains (map (λ (v : Variable). v.name) variables) name → ⊥
undeclared_all variables name i l before = subst (λ (vs : List Variable). Contains (map (λ (v : Variable). v.name) vs) name → ⊥) (take_all i variables l) before

pub declared_here : (variables : List Variable) (name : Name) (i : ℕ) (x : Variable) → i < length variables → x ≡ get_or variables i x → x.name ≡ name → Contains (map (λ (v : Variable). v.name) variables) name
declared_here variables name i x l is e = subst (Contains (map (λ (v : Variable). v.name) variables)) e (Contains-mapped (λ (v : Variable). v.name) variables x (i, l, sym is))

-- a name that no variable has has no value
chosen : (b : Bool) (a v : Value) (o : Option Value) (P : Type 0) → (b ≡ true → ⊥) → (o ≡ Some v → P) → (if b then Some a else o) ≡ Some v → P
chosen true a v o P n to e = absurd (n refl)
chosen false a v o P n to e = to e

pub no_value : (variables : List Variable) (row : List Value) (name : Name) (v : Value) → (Contains (map (λ (v : Variable). v.name) variables) name → ⊥) → value_in variables row name ≡ Some v → ⊥
no_value [] row name v n e = cc
no_value (x ∷ xs) [] name v n e = cc
no_value (x ∷ xs) (a ∷ row) name v n e =
    chosen (same_name x.name name) a v (value_in xs row name) ⊥
    (λ t. n (subst (Contains (x.name ∷ map (λ (v : Variable). v.name) xs)) (names_equal x.name name (same_name x.name name) refl t) (Contains-here x.name (map (λ (v : Variable). v.name) xs))))
    (λ h. no_value xs row name v (λ k. n (Contains-there x.name (map (λ (v : Variable). v.name) xs) name k)) h)
    e

pub named_value : (variables : List Variable) (name : Name) (i : ℕ) (v : Value) (b : Bool) (old new : List (Option Value)) → IsNumberOf variables name i → length old ≡ length variables
    → MatchBool b (Adds (HasAt i v) old new) (Refutes (HasAt i v) old) → MatchBool b (Adds (HasName variables name v) old new) (Refutes (HasName variables name v) old)
named_value variables name i v true old new n long a = record {
  one_each = a.one_each;
  to = λ row l h. let both = a.to row l h in (both.0, n.same row (l ∙ long) ∙ both.1);
  from = λ row l h k. a.from row l h (sym (n.same row (l ∙ long)) ∙ k);
}
named_value variables name i v false old new n long a = record { never = λ row l h k. a.never row l h (sym (n.same row (l ∙ long)) ∙ k) }
