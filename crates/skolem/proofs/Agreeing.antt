-- Rows that agree with bound values.
use Rattle.std.proofs.Common.{◌≡◌, ℕ, zero, suc, ◌+◌, List, [], ◌∷◌, ◌++◌, length, length-append, arith, refl, ap, sym, ◌∙◌, subst}
use Rattle.std.specs.Prelude.{Option, None, Some, Bool, true, false, slice_get, set}
use Rattle.sd_value.specs.declared.Value.{Value}
use Rattle.query_spec.specs.Rows.{Agrees, IsNumberOf}
use Rattle.std.specs.Bool.{MatchBool}
use Rattle.std.specs.Ordering.{eq_by_cmp, is_eq}
use Rattle.std.specs.declared.cmp.Ordering.{Ordering}
use Rattle.std.specs.declared.cmp.Ordering.TheVariants.{Less, Equal, Greater}
use Rattle.std.proofs.lemmas.Cmp.{tied_itself}
use Rattle.sd_value.specs.Order.{value_cmp}
use Rattle.sd_value.specs.OrderLaws.{value_cmp-exact, value_cmp-total}
use Rattle.sd_value.specs.declared.Datum.{Datum}
use Rattle.sd_value.specs.declared.Datum.TheVariants.{Text}
use Rattle.sd_value.specs.declared.Value.TheVariants.{Data}
use Rattle.graph_spec.specs.DataGraph.{Name}
use Rattle.query_spec.specs.declared.Variable.{Variable}
use Rattle.query_spec.specs.Query.{variable, constant}
use Rattle.skolem.specs.Solved.{HasAt, Adds, Refutes, SolvesOperand, AllFree}

tie : (o : Ordering) → is_eq o ≡ true → o ≡ Equal
tie Less e = cc
tie Equal e = refl
tie Greater e = cc

pub values_equal : (x y : Value) (b : Bool) → b ≡ eq_by_cmp value_cmp x y → b ≡ true → x ≡ y
values_equal x y b e t = value_cmp-exact x y (tie (value_cmp x y) (sym e ∙ t))

pub values_differ : (x y : Value) (b : Bool) → b ≡ eq_by_cmp value_cmp x y → b ≡ false → x ≡ y → ⊥
values_differ x y b e f same =
    let tied = tied_itself value_cmp-total x in
    let at : value_cmp x y ≡ Equal = subst (λ z. value_cmp x z ≡ Equal) same tied in
    let yes : is_eq (value_cmp x y) ≡ true = ap is_eq at in
    cc

pub agrees_at : (row : List Value) (bound : List (Option Value)) (i : ℕ) (v : Value) → Agrees row bound → slice_get bound i ≡ Some (Some v) → slice_get row i ≡ Some v
agrees_at [] [] i v a e = cc
agrees_at [] (o ∷ bound) i v a e = absurd a
agrees_at (x ∷ row) [] i v a e = absurd a
agrees_at (x ∷ row) (None ∷ bound) zero v a e = cc
agrees_at (x ∷ row) (None ∷ bound) (suc i) v a e = agrees_at row bound i v a e
agrees_at (x ∷ row) (Some w ∷ bound) zero v a e = let h = a.0 in cc
agrees_at (x ∷ row) (Some w ∷ bound) (suc i) v a e = agrees_at row bound i v a.1 e

pub set_to : (row : List Value) (bound : List (Option Value)) (i : ℕ) (v : Value) → slice_get bound i ≡ Some None → Agrees row (set bound i (Some v)) → Agrees row bound × HasAt i v row
set_to [] [] i v e a = cc
set_to [] (o ∷ bound) zero v e a = absurd a
set_to [] (o ∷ bound) (suc i) v e a = absurd a
set_to (x ∷ row) [] i v e a = cc
set_to (x ∷ row) (None ∷ bound) zero v e a = (a.1, ap Some a.0)
set_to (x ∷ row) (None ∷ bound) (suc i) v e a = set_to row bound i v e a
set_to (x ∷ row) (Some w ∷ bound) zero v e a = cc
set_to (x ∷ row) (Some w ∷ bound) (suc i) v e a = let rest = set_to row bound i v e a.1 in ((a.0, rest.0), rest.1)

some_same : (x y : Value) → Some x ≡ Some y → x ≡ y
some_same x y e = cc

pub set_from : (row : List Value) (bound : List (Option Value)) (i : ℕ) (v : Value) → slice_get bound i ≡ Some None → Agrees row bound → HasAt i v row → Agrees row (set bound i (Some v))
set_from [] [] i v e a h = cc
set_from [] (o ∷ bound) i v e a h = absurd a
set_from (x ∷ row) [] i v e a h = absurd a
set_from (x ∷ row) (None ∷ bound) zero v e a h = (some_same x v h, a)
set_from (x ∷ row) (None ∷ bound) (suc i) v e a h = set_from row bound i v e a h
set_from (x ∷ row) (Some w ∷ bound) zero v e a h = cc
set_from (x ∷ row) (Some w ∷ bound) (suc i) v e a h = (a.0, set_from row bound i v e a.1 h)

pub adds_set : (bound : List (Option Value)) (i : ℕ) (v : Value) → slice_get bound i ≡ Some None → length (set bound i (Some v)) ≡ length bound → Adds (HasAt i v) bound (set bound i (Some v))
adds_set bound i v e long = record {
  one_each = long;
  to = λ row l a. set_to row bound i v e a;
  from = λ row l a h. set_from row bound i v e a h;
}

-- what is bound already adds nothing
pub adds_same : (bound : List (Option Value)) (i : ℕ) (v : Value) → slice_get bound i ≡ Some (Some v) → Adds (HasAt i v) bound bound
adds_same bound i v e = record {
  one_each = refl;
  to = λ row l a. (a, agrees_at row bound i v a e);
  from = λ row l a h. a;
}

pub refutes_other : (bound : List (Option Value)) (i : ℕ) (w v : Value) → slice_get bound i ≡ Some (Some w) → (w ≡ v → ⊥) → Refutes (HasAt i v) bound
refutes_other bound i w v e n = record { never = λ row l a h. let at = agrees_at row bound i w a e in n (some_same w v (sym at ∙ h)) }

-- by a test whether it is bound to the value
pub adds_or_refutes : (bound : List (Option Value)) (i : ℕ) (w v : Value) (b : Bool) → b ≡ eq_by_cmp value_cmp w v → slice_get bound i ≡ Some (Some w) → MatchBool b (Adds (HasAt i v) bound bound) (Refutes (HasAt i v) bound)
adds_or_refutes bound i w v true e at = adds_same bound i v (at ∙ ap (λ z. Some (Some z)) (values_equal w v true e refl))
adds_or_refutes bound i w v false e at = refutes_other bound i w v at (values_differ w v false e refl)

-- by a test whether a constant is the value
pub constant_adds : (variables : List Variable) (bound : List (Option Value)) (w : Value) (d : Datum) (b : Bool) → b ≡ eq_by_cmp value_cmp w (Data d) → MatchBool b (Adds (SolvesOperand variables (constant w) d) bound bound) (Refutes (SolvesOperand variables (constant w) d) bound)
constant_adds variables bound w d true e = record { one_each = refl; to = λ row l a. (a, ap Some (values_equal w (Data d) true e refl)); from = λ row l a h. a }
constant_adds variables bound w d false e = record { never = λ row l a h. values_differ w (Data d) false e refl (some_same w (Data d) h) }

-- what the variable of a number has, the variable's name has
pub named : (variables : List Variable) (name : Name) (i : ℕ) (d : Datum) (b : Bool) (old new : List (Option Value)) → IsNumberOf variables name i → length old ≡ length variables
    → MatchBool b (Adds (HasAt i (Data d)) old new) (Refutes (HasAt i (Data d)) old) → MatchBool b (Adds (SolvesOperand variables (variable name) d) old new) (Refutes (SolvesOperand variables (variable name) d) old)
named variables name i d true old new n long a = record {
  one_each = a.one_each;
  to = λ row l h. let both = a.to row l h in (both.0, n.same row (l ∙ long) ∙ both.1);
  from = λ row l h k. a.from row l h (sym (n.same row (l ∙ long)) ∙ k);
}
named variables name i d false old new n long a = record { never = λ row l h k. a.never row l h (sym (n.same row (l ∙ long)) ∙ k) }

-- a row of that length
abbrev bound_row : ℕ → List Value
bound_row zero = []
bound_row (suc n) = Data (Text []) ∷ bound_row n

bound_row_long : (n : ℕ) → length (bound_row n) ≡ n
bound_row_long zero = refl
bound_row_long (suc n) = ap suc (bound_row_long n)

free_more : (row : List Value) (bound : List (Option Value)) (n : ℕ) → ((row : List Value) → length row ≡ n → Agrees row bound) → length bound ≡ n → length row ≡ n + 1 → Agrees row (bound ++ None ∷ [])
free_more [] bound n f e l = absurd (omega (arith, l))
free_more (x ∷ row) [] zero f e l = f row (omega (arith, l))
free_more (x ∷ row) [] (suc n) f e l = absurd (omega (arith, e))
free_more (x ∷ row) (o ∷ bound) zero f e l = absurd (omega (arith, e))
free_more (x ∷ row) (None ∷ bound) (suc n) f e l = free_more row bound n (λ r k. f (x ∷ r) (ap suc k)) (omega (arith, e)) (omega (arith, l))
free_more (x ∷ row) (Some w ∷ bound) (suc n) f e l =
    ((f (x ∷ bound_row n) (ap suc (bound_row_long n))).0, free_more row bound n (λ r k. (f (x ∷ r) (ap suc k)).1) (omega (arith, e)) (omega (arith, l)))

pub all_free_more : (n : ℕ) (bound : List (Option Value)) → AllFree n bound → AllFree (n + 1) (bound ++ None ∷ [])
all_free_more n bound a = record { one_each = length-append bound (None ∷ []) ∙ ap (λ k. k + 1) a.one_each; free = λ row l. free_more row bound n a.free a.one_each l }
