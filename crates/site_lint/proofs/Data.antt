-- What a store says of collections, and a chain without rows.
use Rattle.std.proofs.Common.{◌≡◌, ◌↔◌, ℕ, ◌+◌, ◌<◌, ◌≤◌, Bool, true, false, eqb, List, [], ◌∷◌, ◌++◌, length, take, get_or, refl, sym, ap, ◌∙◌, subst, arith, inl, inr}
use Rattle.std.specs.Prelude.{IsTrue, not, Contains, Option}
use Rattle.std.proofs.lemmas.List.{take_more, take_all}
use Rattle.std.proofs.lemmas.List.Elements.{Contains-push_cases}
use Rattle.std.proofs.lemmas.Bool.Decides.{nat_tests}
use Rattle.std.proofs.lemmas.Slice.Zip.{AllZip-long}
use Rattle.sd_value.specs.declared.Value.{Value}
use Rattle.sd_value.specs.Names.{Name}
use Rattle.sd_value.specs.Order.{value_cmp}
use Rattle.sd_value.specs.Ascending.{ListsExactly}
use Rattle.sd_value.specs.Members.{Contains-nil, Contains-here}
use Rattle.graph_spec.specs.DataGraph.{DataGraph, node, HasMember}
use Rattle.graph_spec.specs.Steps.{IsMemberValue, IsCountOf}
use Rattle.query_spec.specs.declared.Variable.{Variable}
use Rattle.query_spec.specs.Query.{Chain}
use Rattle.query_spec.specs.Rows.{IsInDomain, IsRow, Agrees, SomeAnswer}

-- ---- no member

none_listed : (G : DataGraph) (c : Name) (xs : List Value) → ListsExactly value_cmp (IsMemberValue G c) xs → ((n : Name) → HasMember G c n → ⊥) → length xs ≡ 0
none_listed G c [] l none = refl
none_listed G c (x ∷ xs) l none = let m = l.sound x (Contains-here x xs) in absurd (none m.0 m.1)

nothing_listed : {X : Type 0} (xs : List X) (x : X) → Contains xs x → length xs ≡ 0 → ⊥
nothing_listed [] x h e = Contains-nil x h
nothing_listed (y ∷ ys) x h e = omega arith

-- the number of members is 0 where there are none
pub no_member : (G : DataGraph) (c : Name) (n : ℕ) → IsCountOf value_cmp (IsMemberValue G c) n → IsTrue (eqb n 0) ↔ ((m : Name) → HasMember G c m → ⊥)
no_member G c n count = (
  λ t m h. (let zero_is : n ≡ 0 = grind (arith, nat_tests) in nothing_listed count.0 (node m) (count.1.complete (node m) (m, h, refl)) (count.2 ∙ zero_is)),
  λ none. (let long : length count.0 ≡ 0 = none_listed G c count.0 count.1 none in let zero_is : n ≡ 0 = sym count.2 ∙ long in rw zero_is refl),
)

-- ---- no row

not_both : (b : Bool) → not b ≡ true → b ≡ true → ⊥
not_both true e f = cc
not_both false e f = cc

by_none : (b : Bool) (P : Type 0) → (b ≡ true → P) → (P → ⊥) → not b ≡ true
by_none true P f n = absurd (n (f refl))
by_none false P f n = refl

-- a chain has no row where no row is found with nothing bound
pub no_row : (G : DataGraph) (c : Chain) (bound : List (Option Value)) (found : Bool) → ((row : List Value) → length row ≡ length c.variables → Agrees row bound) → IsTrue found ↔ SomeAnswer G c bound
    → IsTrue (not found) ↔ ((row : List Value) → IsRow G c row → ⊥)
no_row G c bound found free both = (
  λ t row r. not_both found t (both.1 (record { row = row; is_answer = record { is_row = r; agrees = free row (AllZip-long (IsInDomain G) c.variables row r.in_domain) } })),
  λ none. by_none found (SomeAnswer G c bound) both.0 (λ s. none s.row s.is_answer.is_row),
)

-- what is free is free in the variables of the chain
pub free_at : (xs ys : List Variable) (values bound : List (Option Value)) → xs ≡ ys → bound ≡ values → ((row : List Value) → length row ≡ length xs → Agrees row values) → (row : List Value) → length row ≡ length ys → Agrees row bound
free_at xs ys values bound e f free row l = subst (Agrees row) (sym f) (free row (l ∙ ap length (sym e)))

-- ---- each of the items so far

pub each_more : {X : Type 0} (P : X → Type 0) (xs : List X) (i : ℕ) (x : X) → i < length xs → x ≡ get_or xs i x → ((y : X) → Contains (take i xs) y → P y) → P x → (y : X) → Contains (take (i + 1) xs) y → P y
each_more P xs i x l is so_far here y h =
    let more : take (i + 1) xs ≡ take i xs ++ x ∷ [] = take_more xs i x l ∙ ap (λ z. take i xs ++ z ∷ []) (sym is) in
    elim (Contains-push_cases (take i xs) x y (subst (λ (zs : List _). Contains zs y) more h)) [ inl k ↦ so_far y k | inr e ↦ subst P e here ]

pub each_all : {X : Type 0} (P : X → Type 0) (xs : List X) (i : ℕ) → length xs ≤ i → ((y : X) → Contains (take i xs) y → P y) → (y : X) → Contains xs y → P y
each_all P xs i l so_far y h = so_far y (subst (λ (zs : List _). Contains zs y) (sym (take_all i xs l)) h)
