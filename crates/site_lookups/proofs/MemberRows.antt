-- The rows of the chain of a collection's members.
use Rattle.std.proofs.Common.{◌≡◌, ◌∙◌, List, [], ◌∷◌, refl, sym, ap, subst, arith, lit<, inl, ⊎_elim, ◌≢◌, ◌≤◌}
use Rattle.std.specs.Prelude.{AllPairs, false}
use Rattle.sd_value.specs.Members.{Contains-nil, Contains-cons_cases, Contains-here}
use Rattle.query_spec.specs.declared.Variable.{Variable}
use Rattle.query_spec.specs.Mentions.{IsWellMade, IsFlat, condition_positions}
use Rattle.std.specs.Prelude.{Some, All, Contains}
use Rattle.std.proofs.lemmas.List.Elements.{All-cons}
use Rattle.sd_value.specs.declared.Value.{Value}
use Rattle.graph_spec.specs.DataGraph.{DataGraph, Name, node, HasMember, IsWellFormed, IsValueOf}
use Rattle.query_spec.specs.Query.{Condition, member, variable, plain}
use Rattle.site_spec.specs.Site.{SomeRow, IsTargetUnder}
use Rattle.query_spec.specs.Holds.{Holds}
use Rattle.query_spec.specs.Rows.{IsRow, value_in, Agrees}
use Rattle.std.specs.Prelude.{Bool, IsTrue, ◌↔◌}
use Rattle.query_spec.specs.Rows.{SomeAnswer}
use Rattle.site_lookups.specs.MemberChain.{only_name, only_variable, member_chain}

value_is : (v : Value) → value_in (only_variable ∷ []) (v ∷ []) only_name ≡ Some v
value_is v = refl

some_same : (x y : Value) → Some x ≡ Some y → x ≡ y
some_same x y e = cc

pub member_row : (G : DataGraph) (c : Name) (row : List Value) → IsRow G (member_chain c) row → (n : Name) × HasMember G c n × (row ≡ node n ∷ [])
member_row G c [] r = absurd r.in_domain
member_row G c (v ∷ []) r =
    let h : Holds G 1 (member c only_name) (value_in (only_variable ∷ []) (v ∷ [])) = r.conditions_hold 0 (member c only_name) (lit< tt) in
    let e : v ≡ node h.0 = some_same v (node h.0) (sym (value_is v) ∙ h.1) in
    (h.0, h.2, ap (λ w. w ∷ []) e)
member_row G c (v ∷ w ∷ row) r = absurd r.in_domain.1

all_none : (P : Condition → Type 0) → All P []
all_none P = λ k d h. absurd (omega (arith, h))

pub row_member : (G : DataGraph) (c n : Name) → IsValueOf G (node n) → HasMember G c n → IsRow G (member_chain c) (node n ∷ [])
row_member G c n v h = record {
  in_domain = (v, tt);
  conditions_hold = All-cons (λ k. Holds G 1 k (value_in (only_variable ∷ []) (node n ∷ []))) (member c only_name) [] (n, value_is (node n), h) (all_none (λ k. Holds G 1 k (value_in (only_variable ∷ []) (node n ∷ []))));
}

only_in : {X : Type 0} (P : X → Type 0) (x y : X) → P x → Contains (x ∷ []) y → P y
only_in P x y p h = ⊎_elim (λ e. subst P e p) (λ n. absurd (Contains-nil y n)) (Contains-cons_cases x [] y h)

no_pairs : {X : Type 0} (R : X → X → Type 0) (x : X) → AllPairs R (x ∷ [])
no_pairs R x = λ i j d h k. absurd (omega (arith, h, k))

all_one : {X : Type 0} (P : X → Type 0) (x : X) → P x → All P (x ∷ [])
all_one P x p = All-cons P x [] p (λ k d h. absurd (omega (arith, h)))

pub member_chain_well_made : (c : Name) → IsWellMade (member_chain c)
member_chain_well_made c = record {
  known_version = inl refl;
  distinct = no_pairs (λ v w. v.name ≢ w.name) only_variable;
  mentioned = λ v h. only_in (λ (v : Variable). Contains (only_name ∷ []) v.name) only_variable v (Contains-here only_name []) h;
  declared = λ x h. only_in (λ (x : Name). Contains (only_name ∷ []) x) only_name x (Contains-here only_name []) h;
  arcs = λ v h k. absurd (Contains-nil v.name k);
  nodes = λ v h k. only_in (λ (v : Variable). v.arc ≡ false) only_variable v refl h;
  flat = all_one IsFlat (member c only_name) tt;
  small = all_one (λ k. condition_positions k ≤ 256) (member c only_name) (omega arith);
  few_variables = omega arith;
  few_conditions = omega arith;
}

node_same : (m n : Name) → node m ≡ node n → m ≡ n
node_same m n e = cc

pub member_asked : (G : DataGraph) (c n : Name) (b : Bool) → IsWellFormed G → IsTrue b ↔ SomeAnswer G (member_chain c) (Some (node n) ∷ []) → IsTrue b ↔ HasMember G c n
member_asked G c n b w h = (
  λ t.
      let a = h.0 t in
      let r = member_row G c a.row a.is_answer.is_row in
      let agrees : Agrees (node r.0 ∷ []) (Some (node n) ∷ []) = subst (λ (row : List Value). Agrees row (Some (node n) ∷ [])) r.2 a.is_answer.agrees in
      subst (HasMember G c) (node_same r.0 n agrees.0) r.1,
  λ m. h.1 record { row = node n ∷ []; is_answer = record { is_row = row_member G c n (w.members_are_nodes record { collection = c; node = n } m) m; agrees = (refl, tt) } },
)

pub members_listed : (G : DataGraph) (c : Name) (vs : List Value) → IsWellFormed G → ((v : Value) → Contains vs v ↔ SomeRow G (member_chain c) (λ s. IsTargetUnder s (plain (variable only_name)) v)) → (v : Value) → Contains vs v ↔ ((n : Name) × HasMember G c n × (v ≡ node n))
members_listed G c vs w listed v = (
  λ h.
      let s = (listed v).0 h in
      let r = member_row G c s.row s.is_row in
      let at : value_in (only_variable ∷ []) (node r.0 ∷ []) only_name ≡ Some v = subst (λ (row : List Value). value_in (only_variable ∷ []) row only_name ≡ Some v) r.2 s.holds in
      (r.0, r.1, some_same v (node r.0) (sym at ∙ value_is (node r.0))),
  λ (n, m, e). (listed v).1 record { row = node n ∷ []; is_row = row_member G c n (w.members_are_nodes record { collection = c; node = n } m) m; holds = value_is (node n) ∙ ap Some (sym e) },
)
