-- The one value that a function gives.
use Rattle.std.proofs.Common.{◌≡◌, ℕ, ◌<◌, Bool, true, false, List, [], ◌∷◌, length, sym, ap, ◌∙◌, subst, arith, Option, Some, None, IsSomeAnd, ℤ}
use Rattle.std.specs.Prelude.{◌==◌}
use Rattle.std.specs.Option.{option_map, SomeIff}
use Rattle.std.specs.Int.{w64}
use Rattle.std.specs.Int.RustNames.{FitsSigned}
use mir.Val.{to_z, of_z}
use Rattle.std.proofs.lemmas.Int.{to_z-of_z}
use Rattle.std.proofs.lemmas.Bool.{false≢true, eqb-true}
use Rattle.sd_value.specs.declared.Value.{Value}
use Rattle.function_spec.specs.Functions.{IsText, IsFilledText, IsInt}
use Rattle.text_functions.specs.Told.{Tells}

-- where the arguments have another kind there is no value
pub told_none : {X : Type 0} (o : Option X) (P : X → Value → Type 0) → o ≡ None → Tells (λ v. IsSomeAnd o (λ x. P x v)) None
told_none o P e = λ v h. subst (λ p. IsSomeAnd p (λ x. P x v)) e h

-- where they have the kind the value is that of their texts and numbers
pub told_some : {X : Type 0} (o : Option X) (x : X) (P : X → Value → Type 0) (r : Option Value) → o ≡ Some x → Tells (P x) r → Tells (λ v. IsSomeAnd o (λ y. P y v)) r
told_some o x P r e h = subst (λ p. Tells (λ v. IsSomeAnd p (λ y. P y v)) r) (sym e) h

pub text_as : (t u : List ℕ) (r : Option Value) → Tells (IsText t) r → t ≡ u → Tells (IsText u) r
text_as t u r h e = subst (λ x. Tells (IsText x) r) e h

pub filled_as : (t u : List ℕ) (r : Option Value) → Tells (IsFilledText t) r → t ≡ u → Tells (IsFilledText u) r
filled_as t u r h e = subst (λ x. Tells (IsFilledText x) r) e h

-- the same value, where its property is said in another way
pub told_as : {P Q : Value → Type 0} (r : Option Value) → Tells P r → ((v : Value) → P v → Q v) → ((v : Value) → Q v → P v) → Tells Q r
told_as None h to from = λ v q. h v (from v q)
told_as (Some w) h to from = (to w h.0, λ v q. h.1 v (from v q))

pub int_as : (m n : ℤ) (r : Option Value) → Tells (IsInt m) r → m ≡ n → Tells (IsInt n) r
int_as m n r h e = subst (λ x. Tells (IsInt x) r) e h

pub pair_as : {X Y : Type 0} (Q : X × Y → Value → Type 0) (r : Option Value) (x x' : X) (y y' : Y) → Tells (Q (x, y)) r → x ≡ x' → y ≡ y' → Tells (Q (x', y')) r
pair_as Q r x x' y y' h e d = subst (λ a. Tells (Q (a, y')) r) e (subst (λ b. Tells (Q (x, b)) r) d h)

-- with a condition that holds, or that does not
pub with_yes : (A : Type 0) (P : Value → Type 0) (r : Option Value) → A → Tells P r → Tells (λ v. A × P v) r
with_yes A P r a h = told_as r h (λ v p. (a, p)) (λ v q. q.1)

-- what is read of the arguments, as code has it
pub none_from : {A B : Type 0} (f : A → B) (r : Option A) (o : Option B) → option_map f r ≡ o → r ≡ None → o ≡ None
none_from f r o e is = sym e ∙ ap (option_map f) is

pub some_from : {A B : Type 0} (f : A → B) (r : Option A) (o : Option B) (a : A) → option_map f r ≡ o → r ≡ Some a → o ≡ Some (f a)
some_from f r o a e is = sym e ∙ ap (option_map f) is

pub filled_from : (t u : List ℕ) (b : Bool) → b ≡ (length t == 0) → b ≡ false → t ≡ u → 0 < length u
filled_from [] u b e f same = absurd (false≢true (sym f ∙ e))
filled_from (x ∷ xs) u b e f same = omega (arith, ap length same)

pub unfilled_from : (t u : List ℕ) (b : Bool) → b ≡ (length t == 0) → b ≡ true → t ≡ u → 0 < length u → ⊥
unfilled_from t u b e f same lt =
    let zero : length t ≡ 0 = eqb-true (length t) 0 (sym e ∙ f) in
    omega (arith, zero, ap length same, lt)

-- a number that may not have 64 bits
pub checked_none : (n : Option ℤ) (z : ℤ) → n ≡ None → SomeIff n (FitsSigned w64 z) z → (v : Value) → IsInt z v → ⊥
checked_none n z e h v q = (subst (λ o. SomeIff o (FitsSigned w64 z) z) e h) q.0

pub checked_some : (n : Option ℤ) (m z : ℤ) (r : Option Value) → n ≡ Some m → SomeIff n (FitsSigned w64 z) z → Tells (IsInt m) r → Tells (IsInt z) r
checked_some n m z r e h t = int_as m z r t (subst (λ o. SomeIff o (FitsSigned w64 z) z) e h).1

-- of two numbers as code has them
pub of_both : (f : ℤ → ℤ → ℤ) (a b : ℤ) (r : Option Value) → FitsSigned w64 a → FitsSigned w64 b → Tells (IsInt (f (to_z w64 (of_z w64 a)) (to_z w64 (of_z w64 b)))) r → Tells (IsInt (f a b)) r
of_both f a b r fa fb h =
    int_as (f (to_z w64 (of_z w64 a)) (to_z w64 (of_z w64 b))) (f a b) r h
    (ap (λ x. f x (to_z w64 (of_z w64 b))) (to_z-of_z w64 a fa) ∙ ap (f a) (to_z-of_z w64 b fb))

pub triple_as : {X Y Z : Type 0} (Q : (X × Y) × Z → Value → Type 0) (r : Option Value) (x x' : X) (y y' : Y) (z z' : Z) → Tells (Q ((x, y), z)) r → x ≡ x' → y ≡ y' → z ≡ z' → Tells (Q ((x', y'), z')) r
triple_as Q r x x' y y' z z' h e d g = subst (λ a. Tells (Q ((a, y'), z')) r) e (subst (λ b. Tells (Q ((x, b), z')) r) d (subst (λ a. Tells (Q ((x, y), a)) r) g h))

pub of_one : (n : ℤ) (r : Option Value) → FitsSigned w64 n → Tells (IsInt (to_z w64 (of_z w64 n))) r → Tells (IsInt n) r
of_one n r f h = int_as (to_z w64 (of_z w64 n)) n r h (to_z-of_z w64 n f)
