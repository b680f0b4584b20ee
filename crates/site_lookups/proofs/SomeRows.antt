-- Targets under some of a chain's rows, which have all values of the variables that the target is made of.
use Rattle.std.proofs.Common.{◌≡◌, ◌∙◌, ◌<◌, ◌+◌, ℕ, zero, suc, List, [], ◌∷◌, ◌++◌, length, map, take, get_or, add-one, arith, refl, sym, ap, subst, inl, inr, ⊎_elim}
use Rattle.std.specs.Prelude.{Option, Some, Contains, ◌↔◌, Bool, true, false, IsTrue, slice_get, if◌then◌else◌}
use Rattle.std.specs.List.{AllZip, flat_map}
use Rattle.std.proofs.lemmas.List.Elements.{Contains-append_cases, Contains-append_left, Contains-append_right}
use Rattle.sd_value.specs.declared.Term.{Term}
use Rattle.sd_value.specs.declared.Datum.{Datum}
use Rattle.sd_value.specs.declared.Value.{Value}
use Rattle.sd_value.specs.declared.Value.TheVariants.{Data, Page}
use Rattle.std.specs.Ordering.{eq_by_cmp}
use Rattle.sd_value.specs.Order.{bytes_cmp}
use Rattle.sd_value.specs.Members.{Contains-here, Contains-nil, Contains-cons_cases}
use Rattle.sd_value.specs.Gathered.{Gathered}
use Rattle.graph_spec.specs.DataGraph.{DataGraph, Name}
use Rattle.query_spec.specs.declared.Variable.{Variable}
use Rattle.query_spec.specs.Query.{Operand, variable, constant, Target, plain, made, summed, Link, Chain}
use Rattle.query_spec.specs.Mentions.{operand_names, same_name}
use Rattle.query_spec.specs.Holds.{Assignment, operand_value}
use Rattle.query_spec.specs.Rows.{value_in, row_cmp, row_cmp-total, Agrees, IsAnswer}
use Rattle.struql_ast.specs.declared.Operand.{Operand as Written}
use Rattle.struql_ast.specs.Reading.{operand_of}
use Rattle.asker.specs.Counted.{IsCounted}
use Rattle.asker.specs.Wanted.{wanted_part, ListsSome}
use Rattle.weight_spec.specs.CountsAtMost.{CountsAtMost}
use Rattle.weight_spec.proofs.Handing.{distinct_ascending}
use Rattle.skolem.specs.Solved.{Solves}
use Rattle.site_spec.specs.Site.{IsTargetUnder, SomeRow}
use Rattle.site_lookups.specs.Ends.{StartsBy, LeadsTo}
use Rattle.site_lookups.specs.Wanted.{target_names, Tells}
use Rattle.site_lookups.proofs.Rows.{row_long}
use Rattle.site_lookups.proofs.Counts.{counted_within}
use Rattle.site_lookups.proofs.Targets.{name_is}

-- ---- flags

one_name : (x y : Name) → Contains (x ∷ []) y → x ≡ y
one_name x y h = ⊎_elim (λ e. e) (λ n. absurd (Contains-nil y n)) (Contains-cons_cases x [] y h)

pub is_this : (x y : Name) (b : Bool) → b ≡ eq_by_cmp bytes_cmp x y → Contains (x ∷ []) y → IsTrue b
is_this x y b e h = (name_is x y b e).1 (one_name x y h)

none_more : (ws : List Written) (i : ℕ) (w : Written) (x : Name) → i < length ws → w ≡ get_or ws i w → (Contains (flat_map operand_names (map operand_of (take i ws))) x → ⊥) → (Contains (operand_names (operand_of w)) x → ⊥)
    → Contains (flat_map operand_names (map operand_of (take (suc i) ws))) x → ⊥
none_more [] i w x l is none not h = absurd (omega (arith, l))
none_more (u ∷ ws) zero w x l is none not h = elim (Contains-append_cases (operand_names (operand_of u)) [] x h) [
  | inl c ↦ not (subst (λ z. Contains (operand_names (operand_of z)) x) (sym is) c)
  | inr c ↦ Contains-nil x c
]
none_more (u ∷ ws) (suc i) w x l is none not h = elim (Contains-append_cases (operand_names (operand_of u)) (flat_map operand_names (map operand_of (take (suc i) ws))) x h) [
  | inl c ↦ none (Contains-append_left (operand_names (operand_of u)) (flat_map operand_names (map operand_of (take i ws))) x c)
  | inr c ↦ none_more ws i w x (omega (arith, l)) is (λ d. none (Contains-append_right (operand_names (operand_of u)) (flat_map operand_names (map operand_of (take i ws))) x d)) not c
]

pub none_next : (ws : List Written) (i : ℕ) (w : Written) (x : Name) → i < length ws → w ≡ get_or ws i w → (Contains (flat_map operand_names (map operand_of (take i ws))) x → ⊥) → (Contains (operand_names (operand_of w)) x → ⊥)
    → Contains (flat_map operand_names (map operand_of (take (i + 1) ws))) x → ⊥
none_next ws i w x l is none not = rw add-one (none_more ws i w x l is none not)

set_more : (names : List Name) (vs : List Variable) (fs : List Bool) (i : ℕ) (x : Variable) (b : Bool) → i < length vs → x ≡ get_or vs i x → length fs ≡ i
    → ((k : ℕ) (v : Variable) → slice_get (take i vs) k ≡ Some v → Contains names v.name → slice_get fs k ≡ Some true) → (Contains names x.name → IsTrue b)
    → (k : ℕ) (v : Variable) → slice_get (take (suc i) vs) k ≡ Some v → Contains names v.name → slice_get (fs ++ b ∷ []) k ≡ Some true
set_more names [] fs i x b l is long so this k v h c = absurd (omega (arith, l))
set_more names (u ∷ vs) [] zero x b l is long so this zero v h c =
    let same : v ≡ x = (let e : u ≡ v = cc in sym e ∙ sym is) in
    ap Some (this (subst (λ z. Contains names z.name) same c))
set_more names (u ∷ vs) [] zero x b l is long so this (suc k) v h c = cc
set_more names (u ∷ vs) (f ∷ fs) zero x b l is long so this k v h c = cc
set_more names (u ∷ vs) [] (suc i) x b l is long so this k v h c = cc
set_more names (u ∷ vs) (f ∷ fs) (suc i) x b l is long so this zero v h c = so zero v h c
set_more names (u ∷ vs) (f ∷ fs) (suc i) x b l is long so this (suc k) v h c =
    set_more names vs fs i x b (omega (arith, l)) is (omega (arith, long)) (λ j w e d. so (suc j) w e d) this k v h c

-- ---- rows that have the same values where the flags are set

module _ (x : Name) where
  abbrev Flagged : List Variable → List Bool → Type 0
  Flagged vs fs = (k : ℕ) (v : Variable) → slice_get vs k ≡ Some v → v.name ≡ x → slice_get fs k ≡ Some true

  first_same : (fs : List Bool) (a b : Value) (r t : List Value) → slice_get fs 0 ≡ Some true → wanted_part fs (a ∷ r) ≡ wanted_part fs (b ∷ t) → a ≡ b
  first_same [] a b r t s e = cc
  first_same (true ∷ fs) a b r t s e = cc
  first_same (false ∷ fs) a b r t s e = cc

  rest_flagged : (v : Variable) (vs : List Variable) (f : Bool) (fs : List Bool) → Flagged (v ∷ vs) (f ∷ fs) → Flagged vs fs
  rest_flagged v vs f fs h k w e n = h (suc k) w e n

  value_same : (vs : List Variable) (fs : List Bool) (r t : List Value) → length fs ≡ length vs → Flagged vs fs → length r ≡ length vs → length t ≡ length vs → wanted_part fs r ≡ wanted_part fs t → value_in vs r x ≡ value_in vs t x
  value_same [] fs r t long h l m e = refl
  value_same (v ∷ vs) [] r t long h l m e = cc
  value_same (v ∷ vs) (f ∷ fs) [] t long h l m e = cc
  value_same (v ∷ vs) (f ∷ fs) (a ∷ r) [] long h l m e = cc
  value_same (v ∷ vs) (f ∷ fs) (a ∷ r) (b ∷ t) long h l m e =
      by_name (same_name v.name x) refl (value_same vs fs r t (omega (arith, long)) (rest_flagged v vs f fs h) (omega (arith, l)) (omega (arith, m)) (rest f e))
    where
      rest : (g : Bool) → wanted_part (g ∷ fs) (a ∷ r) ≡ wanted_part (g ∷ fs) (b ∷ t) → wanted_part fs r ≡ wanted_part fs t
      rest true q = cc
      rest false q = q

      by_name : (n : Bool) → same_name v.name x ≡ n → value_in vs r x ≡ value_in vs t x → (if n then Some a else value_in vs r x) ≡ (if n then Some b else value_in vs t x)
      by_name true is later = ap Some (first_same (f ∷ fs) a b r t (h zero v refl ((name_is v.name x true (sym is)).0 refl)) e)
      by_name false is later = later

operand_same : (o : Operand) (s z : Assignment) → ((x : Name) → Contains (operand_names o) x → s x ≡ z x) → operand_value s o ≡ operand_value z o
operand_same (variable x) s z h = h x (Contains-here x [])
operand_same (constant v) s z h = refl

args_moved : (os : List Operand) (ds : List Datum) (s z : Assignment) → ((x : Name) → Contains (flat_map operand_names os) x → s x ≡ z x) → AllZip (λ operand d. operand_value s operand ≡ Some (Data d)) os ds → AllZip (λ operand d. operand_value z operand ≡ Some (Data d)) os ds
args_moved [] [] s z h all = tt
args_moved [] (d ∷ ds) s z h all = absurd all
args_moved (o ∷ os) [] s z h all = absurd all
args_moved (o ∷ os) (d ∷ ds) s z h all = (
  sym (operand_same o s z (λ x c. h x (Contains-append_left (operand_names o) (flat_map operand_names os) x c))) ∙ all.0,
  args_moved os ds s z (λ x c. h x (Contains-append_right (operand_names o) (flat_map operand_names os) x c)) all.1,
)

target_moved : (target : Target) (s z : Assignment) (v : Value) → ((x : Name) → Contains (target_names target) x → s x ≡ z x) → IsTargetUnder s target v → IsTargetUnder z target v
target_moved (plain o) s z v h u = sym (operand_same o s z h) ∙ u
target_moved (summed a) s z v h u = absurd u
target_moved (made t) s z v h u = (u.0, record { function = u.1.function; args = args_moved t.args u.0.args s z h u.1.args }, u.2)

-- the target is the same under rows that have the same values where the flags are set
pub target_told : (vs : List Variable) (target : Target) (fs : List Bool) (r t : List Value) (v : Value) → Tells vs target fs → length r ≡ length vs → length t ≡ length vs → wanted_part fs r ≡ wanted_part fs t
    → IsTargetUnder (value_in vs r) target v → IsTargetUnder (value_in vs t) target v
target_told vs target fs r t v tells l m e u =
    target_moved target (value_in vs r) (value_in vs t) v
    (λ x c. value_same x vs fs r t tells.one_each (λ k w at is. tells.set k w at (subst (Contains (target_names target)) (sym is) c)) l m e) u

-- ---- answers

pub hands_some : (wanted : List Bool) (Q P : List Value → Type 0) (rows : List (List Value)) (a b : ℕ) → ListsSome wanted Q rows → ((row : List Value) → Q row → P row) → IsCounted a (length rows) b → CountsAtMost P a b
hands_some wanted Q P rows a b some to counted = record {
  things = rows;
  distinct = distinct_ascending row_cmp row_cmp-total rows some.ascending;
  each = λ row h. to row (some.sound row h);
  high = counted_within a (length rows) b counted;
}

pub targets_told : (G : DataGraph) (c : Chain) (target : Target) (wanted : List Bool) (bound : List (Option Value)) (rows : List (List Value)) (vs : List Value) → ((row : List Value) → length row ≡ length c.variables → Agrees row bound)
    → Tells c.variables target wanted → ListsSome wanted (IsAnswer G c bound) rows
    → Gathered (λ (row : List Value) (v : Value). IsTargetUnder (value_in c.variables row) target v) rows vs → (v : Value) → Contains vs v ↔ SomeRow G c (λ s. IsTargetUnder s target v)
targets_told G c target wanted bound rows vs free tells some g v = (
  λ h. let r = g.sound v h in record { row = r.0; is_row = (some.sound r.0 r.1).is_row; holds = r.2 },
  λ s.
      let long = row_long G c s.row s.is_row in
      let w = some.each s.row (record { is_row = s.is_row; agrees = free s.row long }) in
      g.complete w.0 v w.1 (target_told c.variables target wanted s.row w.0 v tells long (row_long G c w.0 (some.sound w.0 w.1).is_row) (sym w.2) s.holds),
)

pub led_to_told : (G : DataGraph) (c : Chain) (k : Link) (target : Target) (p : Term) (label : Name) (wanted : List Bool) (bound : List (Option Value)) (rows : List (List Value)) (ends : List Value)
    → Solves c.variables (StartsBy k p label) bound → Tells c.variables target wanted → ListsSome wanted (IsAnswer G c bound) rows
    → Gathered (λ (row : List Value) (v : Value). IsTargetUnder (value_in c.variables row) target v) rows ends → (v : Value) → Contains ends v ↔ LeadsTo G c p label k target v
led_to_told G c k target p label wanted bound rows ends s tells some g v = (
  λ h.
      let r = g.sound v h in
      let a = some.sound r.0 r.1 in
      let starts = s.to r.0 (row_long G c r.0 a.is_row) a.agrees in
      record { row = r.0; is_row = a.is_row; holds = (starts, r.2) },
  λ j.
      let long = row_long G c j.row j.is_row in
      let w = some.each j.row (record { is_row = j.is_row; agrees = s.from j.row long j.holds.0 }) in
      g.complete w.0 v w.1 (target_told c.variables target wanted j.row w.0 v tells long (row_long G c w.0 (some.sound w.0 w.1).is_row) (sym w.2) j.holds.1),
)

length_push : {X : Type 0} (xs : List X) (x : X) → length (xs ++ x ∷ []) ≡ length xs + 1
length_push [] x = refl
length_push (y ∷ xs) x = omega (arith, length_push xs x)

length_took : {X : Type 0} (xs : List X) (i : ℕ) → i < length xs → length (take (suc i) xs) ≡ suc (length (take i xs))
length_took [] i l = absurd (omega (arith, l))
length_took (x ∷ xs) zero l = refl
length_took (x ∷ xs) (suc i) l = ap suc (length_took xs i (omega (arith, l)))

length_at : {X : Type 0} (xs : List X) (i : ℕ) → i < length xs → length (take i xs) ≡ i
length_at [] i l = absurd (omega (arith, l))
length_at (x ∷ xs) zero l = refl
length_at (x ∷ xs) (suc i) l = ap suc (length_at xs i (omega (arith, l)))

pub tells_more : (vs : List Variable) (target : Target) (fs : List Bool) (i : ℕ) (x : Variable) (b : Bool) → i < length vs → x ≡ get_or vs i x → Tells (take i vs) target fs → (Contains (target_names target) x.name → IsTrue b) → Tells (take (i + 1) vs) target (fs ++ b ∷ [])
tells_more vs target fs i x b l is so this = rw add-one (record {
  one_each = omega (arith, length_push fs b, length_took vs i l, so.one_each);
  set = set_more (target_names target) vs fs i x b l is (so.one_each ∙ length_at vs i l) so.set this;
})
