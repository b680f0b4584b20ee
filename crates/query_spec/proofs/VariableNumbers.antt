-- The number of a variable, found by its name.
use Rattle.std.proofs.Common.{◌≡◌, ℕ, zero, suc, ◌+◌, ◌<◌, ◌≤◌, List, [], ◌∷◌, length, map, arith, refl, ap, sym, ◌∙◌, inl, inr, subst}
use Rattle.std.specs.Prelude.{◌⊎◌, Bool, true, false, Contains, Some, slice_get}
use Rattle.std.specs.Ordering.{eq_by_cmp}
use Rattle.sd_value.specs.Order.{bytes_cmp}
use Rattle.sd_value.specs.OrderLaws.{same_bytes, bytes_same}
use Rattle.sd_value.specs.declared.Value.{Value}
use Rattle.sd_value.specs.Members.{Contains-nil, Contains-cons_cases}
use Rattle.query_spec.specs.declared.Variable.{Variable}
use Rattle.query_spec.specs.Mentions.{same_name}
use Rattle.query_spec.specs.Rows.{value_in}

-- no variable before that number has the name
pub record NotBefore (variables : List Variable) (name : List ℕ) (i : ℕ) : Type 0 where
  pub other : (j : ℕ) (v : Variable) → j < i → slice_get variables j ≡ Some v → v.name ≡ name → ⊥

split_below : (j n : ℕ) → j < n + 1 → (j < n) ⊎ (j ≡ n)
split_below j n h = search (arith, h)

pub not_before-more : (variables : List Variable) (name : List ℕ) (i : ℕ) (v : Variable) → NotBefore variables name i → slice_get variables i ≡ Some v → (v.name ≡ name → ⊥) → NotBefore variables name (i + 1)
not_before-more variables name i v n here differs = record {
  other = λ j w l e same. elim (split_below j i l) [
    | inl m ↦ n.other j w m e same
    | inr at ↦ (let there : slice_get variables i ≡ Some w = subst (λ k. slice_get variables k ≡ Some w) at e in let one : v ≡ w = cc in differs (ap (λ x. x.name) one ∙ same))
  ];
}

same_itself : (name : List ℕ) (b : Bool) → b ≡ same_name name name → b ≡ true
same_itself name b e = e ∙ bytes_same name

differ : (x y : List ℕ) (b : Bool) → b ≡ same_name x y → (x ≡ y → ⊥) → b ≡ false
differ x y true e n = absurd (n (same_bytes x y (sym e)))
differ x y false e n = refl

pub number_here : (variables : List Variable) (name : List ℕ) (i : ℕ) (v : Variable) → NotBefore variables name i → slice_get variables i ≡ Some v → v.name ≡ name → (t : List Value) → length t ≡ length variables → value_in variables t name ≡ slice_get t i
number_here [] name i v n here same t l = cc
number_here (x ∷ xs) name i v n here same [] l = cc
number_here (x ∷ xs) name zero v n here same (a ∷ t) l =
    let e : x.name ≡ name = (let one : x ≡ v = cc in ap (λ y. y.name) one ∙ same) in
    let yes : same_name x.name name ≡ true = subst (λ y. same_name x.name y ≡ true) e (same_itself x.name (same_name x.name x.name) refl) in
    rw yes refl
number_here (x ∷ xs) name (suc i) v n here same (a ∷ t) l =
    let never : same_name x.name name ≡ false = differ x.name name (same_name x.name name) refl (n.other zero x (omega arith) refl) in
    let rest = number_here xs name i v (record { other = λ j w m e s. n.other (suc j) w (omega (arith, m)) e s }) here same t (omega (arith, l)) in
    rw never rest

-- a name that stands among the names is some variable's
pub name_found : (variables : List Variable) (name : List ℕ) → Contains (map (λ v. v.name) variables) name → NotBefore variables name (length variables) → ⊥
name_found [] name h n = Contains-nil name h
name_found (x ∷ xs) name h n = elim (Contains-cons_cases x.name (map (λ v. v.name) xs) name h) [
  | inl e ↦ n.other zero x (omega arith) refl e
  | inr rest ↦ name_found xs name rest (record { other = λ j w m e s. n.other (suc j) w (omega (arith, m)) e s })
]

pub names_equal : (x y : List ℕ) (b : Bool) → b ≡ eq_by_cmp bytes_cmp x y → b ≡ true → x ≡ y
names_equal x y b e t = same_bytes x y (sym e ∙ t)

pub names_differ : (x y : List ℕ) (b : Bool) → b ≡ eq_by_cmp bytes_cmp x y → b ≡ false → x ≡ y → ⊥
names_differ x y b e f same =
    let yes : same_name x y ≡ true = subst (λ z. same_name x z ≡ true) same (bytes_same x) in
    cc

pub name_never : (variables : List Variable) (name : List ℕ) (n : ℕ) → Contains (map (λ v. v.name) variables) name → length variables ≤ n → NotBefore variables name n → ⊥
name_never variables name n h l before = name_found variables name h (record { other = λ j w m e s. before.other j w (omega (arith, l, m)) e s })
