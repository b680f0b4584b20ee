-- Orders that go on after a tie, and lists in such an order: each query for a first part of the order finds them placed.
use Rattle.std.specs.Prelude.{◌≡◌, ◌≤◌, ℕ, List}
use Rattle.std.specs.declared.cmp.Ordering.{Ordering}
use Rattle.std.specs.declared.cmp.Ordering.TheVariants.{Less, Equal, Greater}
use Rattle.std.specs.Ordering.{ordering_then, ordering_index, ordering_reverse}
use Rattle.std.specs.Cmp.{IsTotalOrder}
use Rattle.std.specs.List.Sorted.{IsStrictlySortedBy}
use Rattle.std.proofs.Common.{arith, refl, sym, ap, ◌∙◌, inl, inr, get_or}
use Rattle.std.proofs.lemmas.Bool.{cases_lt}
use Rattle.std.proofs.lemmas.Cmp.{tied_itself}
use Rattle.std.proofs.lemmas.Map.Keys.{Less-from_sorted}
use Rattle.sd_value.specs.declared.Term.{Term}
use Rattle.sd_value.specs.declared.Value.{Value}
use Rattle.sd_value.specs.Order.{bytes_cmp, term_cmp, value_cmp}
use Rattle.sd_value.specs.OrderLaws.{bytes_cmp-total, term_cmp-total, value_cmp-total}
use Rattle.list_lookup.specs.Picked.{IsPlaced}

pub then_tied : (p q : Ordering) → p ≡ Equal → q ≡ Equal → ordering_then p q ≡ Equal
then_tied p q h k = ap (λ r. ordering_then r q) h ∙ k

pub after_tie : (p q : Ordering) → p ≡ Equal → ordering_then p q ≡ q
after_tie p q h = ap (λ r. ordering_then r q) h

pub first_not_above : (p q : Ordering) → ordering_then p q ≡ Less → p ≡ Greater → ⊥
first_not_above Less q h k = cc
first_not_above Equal q h k = cc
first_not_above Greater q h k = cc

pub two_not_above : (p q r : Ordering) → ordering_then p (ordering_then q r) ≡ Less → ordering_then p q ≡ Greater → ⊥
two_not_above Less q r h k = cc
two_not_above Equal q r h k = first_not_above q r h k
two_not_above Greater q r h k = cc

pub not_both : (p : Ordering) → p ≡ Less → p ≡ Greater → ⊥
not_both p h k = cc

pub names_tied : (m n : List ℕ) → m ≡ n → bytes_cmp m n ≡ Equal
names_tied m n e = ap (bytes_cmp m) (sym e) ∙ tied_itself bytes_cmp-total m

pub values_tied : (u v : Value) → u ≡ v → value_cmp u v ≡ Equal
values_tied u v e = ap (value_cmp u) (sym e) ∙ tied_itself value_cmp-total u

pub terms_tied : (t u : Term) → t ≡ u → term_cmp t u ≡ Equal
terms_tied t u e = ap (term_cmp t) (sym e) ∙ tied_itself term_cmp-total t

-- a list in an order is placed by each query for a first part of that order
order_up : {K : Type 0} (A : K → K → Ordering) → IsTotalOrder A → (a b q : K) → (A a b ≡ Greater → ⊥) → ordering_index (A a q) ≤ ordering_index (A b q)
order_up A total a b q up = by (A a b) (A b q) refl refl
  where
    by : (r s : Ordering) → A a b ≡ r → A b q ≡ s → ordering_index (A a q) ≤ ordering_index (A b q)
    by Greater s e f = absurd (up e)
    by Equal s e f = let same = total.congr a b q e in let t : ordering_index (A a q) ≡ ordering_index (A b q) = ap ordering_index same in omega arith
    by Less Less e f = let t : ordering_index (A a q) ≡ 0 = ap ordering_index (total.trans a b q e f) in omega arith
    by Less Equal e f =
        let turned : A b a ≡ Greater = total.antisymm b a ∙ ap ordering_reverse e in
        let below : A a q ≡ Less = total.antisymm a q ∙ ap ordering_reverse (sym (total.congr b q a f) ∙ turned) in
        let t : ordering_index (A a q) ≡ 0 = ap ordering_index below in omega arith
    by Less Greater e f = let t : ordering_index (A b q) ≡ 2 = ap ordering_index f in let u = at_most_two (A a q) in omega arith
      where
        at_most_two : (o : Ordering) → ordering_index o ≤ 2
        at_most_two Less = omega arith
        at_most_two Equal = omega arith
        at_most_two Greater = omega arith

pub placed : {X K : Type 0} (R : X → X → Ordering) (A : K → K → Ordering) → IsTotalOrder A → (key : X → K) (q : K) (xs : List X)
    → ((x y : X) → R x y ≡ Less → A (key x) (key y) ≡ Greater → ⊥) → IsStrictlySortedBy R xs → IsPlaced (λ x. A (key x) q) xs
placed R A total key q xs up sorted i j d l m =
    elim (cases_lt i j) [
      | inl below ↦ order_up A total (key (get_or xs i d)) (key (get_or xs j d)) q (up (get_or xs i d) (get_or xs j d) (Less-from_sorted R xs i j d sorted below m))
      | inr above ↦ let same : i ≡ j = omega arith in rw same (omega arith)
    ]
