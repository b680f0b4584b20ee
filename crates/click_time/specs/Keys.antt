-- Keys that are told apart: what equality calls equal is equal.
use Rattle.std.specs.Prelude.{◌≡◌, ℕ, List, Bool, true, false, ◌&&◌}
use Rattle.std.proofs.Common.{refl}
use Rattle.std.specs.declared.cmp.Ordering.{Ordering}
use Rattle.std.specs.declared.cmp.Ordering.TheVariants.{Less, Equal, Greater}
use Rattle.std.specs.Ordering.{is_eq, eq_by_cmp}
use Rattle.sd_value.specs.declared.Term.{Term}
use Rattle.sd_value.specs.declared.Value.{Value}
use Rattle.sd_value.specs.Order.{bytes_cmp, term_cmp, value_cmp}
use Rattle.sd_value.specs.OrderLaws.{bytes_cmp-exact, term_cmp-exact, value_cmp-exact}

tie : (o : Ordering) → is_eq o ≡ true → o ≡ Equal
tie Less e = cc
tie Equal e = refl
tie Greater e = cc

exact_by_cmp : {K : Type 0} (R : K → K → Ordering) → ((x y : K) → R x y ≡ Equal → x ≡ y)
    → (x y : K) → eq_by_cmp R x y ≡ true → x ≡ y
exact_by_cmp R exact x y h = exact x y (tie (R x y) h)

both : (a b : Bool) → (a && b) ≡ true → (a ≡ true) × (b ≡ true)
both true b h = (refl, h)
both false b h = cc

exact_in_pairs : {K L : Type 0} (E : K → K → Bool) (F : L → L → Bool)
    → ((x y : K) → E x y ≡ true → x ≡ y) → ((x y : L) → F x y ≡ true → x ≡ y)
    → (x y : K × L) → (E x.0 y.0 && F x.1 y.1) ≡ true → x ≡ y
exact_in_pairs E F first second x y h =
    let b = both (E x.0 y.0) (F x.1 y.1) h in
    let p : x.0 ≡ y.0 = first x.0 y.0 b.0 in
    let q : x.1 ≡ y.1 = second x.1 y.1 b.1 in
    λ i. (p i, q i)

pub name_key : (x y : List ℕ) → eq_by_cmp bytes_cmp x y ≡ true → x ≡ y
name_key = exact_by_cmp bytes_cmp bytes_cmp-exact

pub term_key : (x y : Term) → eq_by_cmp term_cmp x y ≡ true → x ≡ y
term_key = exact_by_cmp term_cmp term_cmp-exact

pub value_key : (x y : Value) → eq_by_cmp value_cmp x y ≡ true → x ≡ y
value_key = exact_by_cmp value_cmp value_cmp-exact

pub edge_key : (x y : Value × List ℕ)
    → (eq_by_cmp value_cmp x.0 y.0 && eq_by_cmp bytes_cmp x.1 y.1) ≡ true → x ≡ y
edge_key = exact_in_pairs (eq_by_cmp value_cmp) (eq_by_cmp bytes_cmp) value_key name_key
