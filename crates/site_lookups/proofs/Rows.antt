-- Rows of a chain that are asked for by bound values.
use Rattle.std.proofs.Common.{◌≡◌, List, length, subst}
use Rattle.std.specs.Prelude.{Option, Some, None, ◌↔◌, IsTrue, Bool}
use Rattle.std.specs.Option.{MatchOption}
use Rattle.std.proofs.lemmas.Slice.Zip.{AllZip-long}
use Rattle.sd_value.specs.declared.Value.{Value}
use Rattle.graph_spec.specs.DataGraph.{DataGraph}
use Rattle.query_spec.specs.declared.Variable.{Variable}
use Rattle.query_spec.specs.Query.{Chain}
use Rattle.query_spec.specs.Holds.{Assignment}
use Rattle.query_spec.specs.Rows.{IsRow, IsInDomain, SomeAnswer}
use Rattle.skolem.specs.Solved.{Solves, HasNone}
use Rattle.site_spec.specs.Site.{SomeRow}

pub row_long : (G : DataGraph) (c : Chain) (row : List Value) → IsRow G c row → length row ≡ length c.variables
row_long G c row r = AllZip-long (IsInDomain G) c.variables row r.in_domain

pub none_solves : (G : DataGraph) (c : Chain) (P : Assignment → Type 0) → HasNone c.variables P → SomeRow G c P → ⊥
none_solves G c P n s = n.never s.row (row_long G c s.row s.is_row) s.holds

pub answer_to : (G : DataGraph) (c : Chain) (P : Assignment → Type 0) (bound : List (Option Value)) → Solves c.variables P bound → SomeAnswer G c bound → SomeRow G c P
answer_to G c P bound s a = record { row = a.row; is_row = a.is_answer.is_row; holds = s.to a.row (row_long G c a.row a.is_answer.is_row) a.is_answer.agrees }

pub answer_from : (G : DataGraph) (c : Chain) (P : Assignment → Type 0) (bound : List (Option Value)) → Solves c.variables P bound → SomeRow G c P → SomeAnswer G c bound
answer_from G c P bound s r = record { row = r.row; is_answer = record { is_row = r.is_row; agrees = s.from r.row (row_long G c r.row r.is_row) r.holds } }

pub none_case : (G : DataGraph) (c : Chain) (P : Assignment → Type 0) (variables : List Variable) (o : Option (List (Option Value))) → variables ≡ c.variables → o ≡ None → MatchOption o (HasNone variables P) (λ b. Solves variables P b) → SomeRow G c P → ⊥
none_case G c P variables None v e m s = none_solves G c P (subst (λ vs. HasNone vs P) v m) s
none_case G c P variables (Some b) v e m s = cc

pub some_solves : (c : Chain) (P : Assignment → Type 0) (variables : List Variable) (o : Option (List (Option Value))) (b : List (Option Value)) → variables ≡ c.variables → o ≡ Some b → MatchOption o (HasNone variables P) (λ b. Solves variables P b) → Solves c.variables P b
some_solves c P variables o b v e m =
    let at : MatchOption (Some b) (HasNone variables P) (λ b. Solves variables P b) = subst (λ (o : Option (List (Option Value))). MatchOption o (HasNone variables P) (λ b. Solves variables P b)) e m in
    subst (λ vs. Solves vs P b) v at

pub some_case : (G : DataGraph) (c : Chain) (P : Assignment → Type 0) (bound : List (Option Value)) (r : Bool) → Solves c.variables P bound → IsTrue r ↔ SomeAnswer G c bound → IsTrue r ↔ SomeRow G c P
some_case G c P bound r s h = (λ t. answer_to G c P bound s (h.0 t), λ x. h.1 (answer_from G c P bound s x))
