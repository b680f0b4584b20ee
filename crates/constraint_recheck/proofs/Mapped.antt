-- Names that the first variables are mapped to decide what mentions these variables alone.
use Rattle.std.proofs.Common.{◌≡◌, ◌⊎◌, ℕ, zero, suc, ◌≤◌, List, [], ◌∷◌, ◌++◌, length, take, refl, ap, sym, ◌∙◌, subst, inl, inr, arith}
use Rattle.std.specs.Prelude.{Bool, true, false, Contains, if◌then◌else◌}
use Rattle.std.specs.List.{list_any, AllZip}
use Rattle.std.proofs.lemmas.List.Elements.{Contains-append_left, Contains-append_right}
use Rattle.sd_value.specs.Members.{Contains-here, Contains-nil, Contains-cons_cases}
use Rattle.sd_value.specs.Names.{Name}
use Rattle.query_spec.specs.declared.Variable.{Variable}
use Rattle.query_spec.specs.Query.{Operand, variable, constant, PathStep, arc_variable, expression, Condition, member, path, compare, one_of, kind, negation}
use Rattle.query_spec.specs.Mentions.{same_name, operand_names, step_names, names}
use Rattle.constraint_spec.specs.Use.{rename_operand, rename_step, rename, name_for}
use Rattle.constraint_laws.proofs.Names.{by_test, not_both}
use Rattle.constraint_recheck.specs.Search.{deeper, depth}

-- ---- depths

deeper_none : (n : ℕ) (b : Bool) → deeper n b ≤ 0 → (b ≡ false) × (n ≤ 0)
deeper_none zero true h = absurd (omega arith)
deeper_none zero false h = (refl, omega arith)
deeper_none (suc n) b h = absurd (omega arith)

deeper_less : (n : ℕ) (b : Bool) (m : ℕ) → deeper n b ≤ suc m → n ≤ m
deeper_less zero b m h = omega arith
deeper_less (suc n) b m h = omega arith

deeper_within : (n : ℕ) (b : Bool) (m : ℕ) → n ≤ m → deeper n b ≤ suc m
deeper_within zero true m h = omega arith
deeper_within zero false m h = omega arith
deeper_within (suc n) b m h = omega arith

pub depth_within : (variables : List Variable) (xs : List Name) → depth variables xs ≤ length variables
depth_within [] xs = omega arith
depth_within (v ∷ variables) xs = deeper_within (depth variables xs) (list_any (same_name v.name) xs) (length variables) (depth_within variables xs)

-- ---- names of the first variables

pub no_names : (variables : List Variable) (x : Name) → name_for variables [] x ≡ x
no_names [] x = refl
no_names (v ∷ variables) x = refl

none_same : (xs : List Name) (y x : Name) → list_any (same_name y) xs ≡ false → Contains xs x → same_name y x ≡ false
none_same [] y x e m = absurd (Contains-nil x m)
none_same (z ∷ xs) y x e m = by_test (same_name y z) (same_name y x ≡ false)
    (λ t. absurd (not_both (list_any (same_name y) (z ∷ xs)) (rw t refl) e))
    (λ f. elim (Contains-cons_cases z xs x m) [
      | inl same ↦ subst (λ w. same_name y w ≡ false) same f
      | inr back ↦ none_same xs y x (let g : list_any (same_name y) (z ∷ xs) ≡ list_any (same_name y) xs = rw f refl in sym g ∙ e) back
    ])

pub first_names : (variables : List Variable) (ys : List Name) (n : ℕ) (xs : List Name) (x : Name) → Contains xs x → depth variables xs ≤ n
    → name_for variables (take n ys) x ≡ name_for variables ys x
first_names [] ys n xs x m h = refl
first_names (v ∷ variables) [] zero xs x m h = refl
first_names (v ∷ variables) [] (suc n) xs x m h = refl
first_names (v ∷ variables) (y ∷ ys) zero xs x m h =
    let none = deeper_none (depth variables xs) (list_any (same_name v.name) xs) h in
    let off = none_same xs v.name x none.0 m in
    let rest = first_names variables ys 0 xs x m none.1 in
    rw off (sym (no_names variables x) ∙ rest)
first_names (v ∷ variables) (y ∷ ys) (suc n) xs x m h =
    ap (λ z. if same_name v.name x then y else z) (first_names variables ys n xs x m (deeper_less (depth variables xs) (list_any (same_name v.name) xs) n h))

-- ---- renaming by names that agree

abbrev pub Same : (Name → Name) → (Name → Name) → List Name → Type 0
Same f g xs = (x : Name) → Contains xs x → f x ≡ g x

pub operand_same : (f g : Name → Name) (o : Operand) → Same f g (operand_names o) → rename_operand f o ≡ rename_operand g o
operand_same f g (variable x) h = ap variable (h x (Contains-here x []))
operand_same f g (constant v) h = refl

step_same : (f g : Name → Name) (s : PathStep) → Same f g (step_names s) → rename_step f s ≡ rename_step g s
step_same f g (arc_variable x) h = ap arc_variable (h x (Contains-here x []))
step_same f g (expression r) h = refl

left_same : (f g : Name → Name) (xs ys : List Name) → Same f g (xs ++ ys) → Same f g xs
left_same f g xs ys h x m = h x (Contains-append_left xs ys x m)

right_same : (f g : Name → Name) (xs ys : List Name) → Same f g (xs ++ ys) → Same f g ys
right_same f g xs ys h x m = h x (Contains-append_right xs ys x m)

pub rename_same : (f g : Name → Name) (c : Condition) → Same f g (names c) → rename f c ≡ rename g c
rename_same f g (member c x) h = ap (member c) (h x (Contains-here x []))
rename_same f g (path t s u) h =
    let front = left_same f g (operand_names t ++ step_names s) (operand_names u) h in
    let a = operand_same f g t (left_same f g (operand_names t) (step_names s) front) in
    let b = step_same f g s (right_same f g (operand_names t) (step_names s) front) in
    let c = operand_same f g u (right_same f g (operand_names t ++ step_names s) (operand_names u) h) in
    λ i. path (a i) (b i) (c i)
rename_same f g (compare t op u) h =
    let a = operand_same f g t (left_same f g (operand_names t) (operand_names u) h) in
    let c = operand_same f g u (right_same f g (operand_names t) (operand_names u) h) in
    λ i. compare (a i) op (c i)
rename_same f g (one_of t values) h = ap (λ z. one_of z values) (operand_same f g t h)
rename_same f g (kind test x) h = ap (kind test) (h x (Contains-here x []))
rename_same f g (negation c) h = ap negation (rename_same f g c h)

pub rename_first : (variables : List Variable) (ys : List Name) (n : ℕ) (c : Condition) → depth variables (names c) ≤ n
    → rename (name_for variables (take n ys)) c ≡ rename (name_for variables ys) c
rename_first variables ys n c h = rename_same (name_for variables (take n ys)) (name_for variables ys) c (λ x m. first_names variables ys n (names c) x m h)

pub operand_first : (variables : List Variable) (ys : List Name) (n : ℕ) (o : Operand) → depth variables (operand_names o) ≤ n
    → rename_operand (name_for variables (take n ys)) o ≡ rename_operand (name_for variables ys) o
operand_first variables ys n o h = operand_same (name_for variables (take n ys)) (name_for variables ys) o (λ x m. first_names variables ys n (operand_names o) x m h)

-- a name is mapped to one of the names, or stays
pub name_cases : (targets variables : List Variable) (ys : List Name) (x : Name)
    → AllZip (λ v y. Contains targets (record { name = y; arc = v.arc })) variables ys
    → (name_for variables ys x ≡ x) ⊎ ((w : Variable) × Contains targets w × (w.name ≡ name_for variables ys x))
name_cases targets [] ys x h = inl refl
name_cases targets (v ∷ variables) [] x h = absurd h
name_cases targets (v ∷ variables) (y ∷ ys) x h = by_test (same_name v.name x)
    ((name_for (v ∷ variables) (y ∷ ys) x ≡ x) ⊎ ((w : Variable) × Contains targets w × (w.name ≡ name_for (v ∷ variables) (y ∷ ys) x)))
    (λ t. inr (record { name = y; arc = v.arc }, h.0, rw t refl))
    (λ f. elim (name_cases targets variables ys x h.1) [ inl e ↦ inl (rw f e) | inr at ↦ inr (at.0, at.1, rw f at.2) ])
