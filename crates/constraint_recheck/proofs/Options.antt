-- Answers over lists are found where there are any.
use Rattle.std.proofs.Common.{List, [], ◌∷◌, refl, sym, subst, inl, inr}
use Rattle.std.specs.Prelude.{Bool, true, false, Contains, Option, Some, None, option_map, option_and_then, if◌then◌else◌}
use Rattle.std.specs.List.{AllZip}
use Rattle.std.specs.Bool.{Decides}
use Rattle.sd_value.specs.Members.{Contains-nil, Contains-cons_cases, Contains-here, Contains-there}
use Rattle.constraint_recheck.specs.Options.{Finds, or_else, first_of, for_each, fold_over}

pub finds_as : {X : Type 0} (P Q : X → Type 0) → ((x : X) → P x → Q x) → ((x : X) → Q x → P x) → (o : Option X) → Finds P o → Finds Q o
finds_as P Q to from None n = λ x h. n x (from x h)
finds_as P Q to from (Some x) h = to x h

pub finds_map : {X Y : Type 0} (P : X → Type 0) (Q : Y → Type 0) (g : X → Y) → ((x : X) → P x → Q (g x)) → ((y : Y) → Q y → (x : X) × P x) → (o : Option X) → Finds P o → Finds Q (option_map g o)
finds_map P Q g to from None n = λ y h. let at = from y h in n at.0 at.1
finds_map P Q g to from (Some x) h = to x h

-- where a test has to be passed
pub finds_if : {X : Type 0} (P : X → Type 0) (T : Type 0) → ((x : X) → P x → T) → (b : Bool) → Decides b T → (o : Option X) → (T → Finds P o) → Finds P (if b then o else None)
finds_if P T asks true d o h = h (d.0 refl)
finds_if P T asks false d o h = λ x p. let e = d.1 (asks x p) in absurd cc

pub first_finds : {X Y : Type 0} (f : X → Option Y) (P : X → Y → Type 0) (xs : List X) → ((x : X) → Contains xs x → Finds (P x) (f x)) → Finds (λ y. (x : X) × Contains xs x × P x y) (first_of f xs)
first_finds f P [] d = λ y h. Contains-nil h.0 h.1
first_finds {X} {Y} f P (x ∷ xs) d = joined (f x) (first_of f xs) (d x (Contains-here x xs)) (first_finds f P xs (λ z m. d z (Contains-there x xs z m)))
  where
    joined : (o p : Option Y) → Finds (P x) o → Finds (λ y. (z : X) × Contains xs z × P z y) p → Finds (λ y. (z : X) × Contains (x ∷ xs) z × P z y) (or_else o p)
    joined (Some y) p h k = (x, Contains-here x xs, h)
    joined None (Some y) h k = (k.0, Contains-there x xs k.0 k.1, k.2)
    joined None None h k = λ y s. elim (Contains-cons_cases x xs s.0 s.1) [
      | inl e ↦ h y (subst (λ z. P z y) (sym e) s.2)
      | inr back ↦ k y (s.0, back, s.2)
    ]

pub each_finds : {X Y : Type 0} (f : X → Option Y) (P : X → Y → Type 0) (xs : List X) → ((x : X) → Contains xs x → Finds (P x) (f x)) → Finds (λ ys. AllZip P xs ys) (for_each f xs)
each_finds f P [] d = tt
each_finds {X} {Y} f P (x ∷ xs) d = joined (f x) (for_each f xs) (d x (Contains-here x xs)) (each_finds f P xs (λ z m. d z (Contains-there x xs z m)))
  where
    none_first : (Finds (P x) None) → (ys : List Y) → AllZip P (x ∷ xs) ys → ⊥
    none_first h [] z = z
    none_first h (y ∷ ys) z = h y z.0

    none_later : Finds (λ ys. AllZip P xs ys) None → (ys : List Y) → AllZip P (x ∷ xs) ys → ⊥
    none_later h [] z = z
    none_later h (y ∷ ys) z = h ys z.1

    joined : (o : Option Y) (p : Option (List Y)) → Finds (P x) o → Finds (λ ys. AllZip P xs ys) p → Finds (λ ys. AllZip P (x ∷ xs) ys) (option_and_then (λ y. option_map (λ ys. y ∷ ys) p) o)
    joined None p h k = none_first h
    joined (Some y) None h k = none_later k
    joined (Some y) (Some ys) h k = (h, k)

-- ---- folds

-- what holds at first and after each item holds at last
pub fold_keeps : {X Y : Type 0} (P : Y → Type 0) (g : Y → X → Y) (xs : List X) → ((y : Y) (x : X) → Contains xs x → P y → P (g y x)) → (y : Y) → P y → P (fold_over g y xs)
fold_keeps P g [] keep y h = h
fold_keeps P g (x ∷ xs) keep y h = fold_keeps P g xs (λ z w m. keep z w (Contains-there x xs w m)) (g y x) (keep y x (Contains-here x xs) h)

-- what one item makes true, and none makes false, holds at last
pub fold_makes : {X Y : Type 0} (P : Y → Type 0) (g : Y → X → Y) (xs : List X) (x : X) → Contains xs x → ((y : Y) → P (g y x)) → ((y : Y) (w : X) → P y → P (g y w)) → (y : Y) → P (fold_over g y xs)
fold_makes P g [] x m make keep y = absurd (Contains-nil x m)
fold_makes P g (w ∷ xs) x m make keep y = elim (Contains-cons_cases w xs x m) [
  | inl e ↦ fold_keeps P g xs (λ z v n. keep z v) (g y w) (subst (λ v. P (g y v)) (sym e) (make y))
  | inr back ↦ fold_makes P g xs x back make keep (g y w)
]
