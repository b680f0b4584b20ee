-- The variables of a chain, one mention more.
use Rattle.std.proofs.Common.{◌≡◌, ℕ, ◌<◌, ◌≤◌, List, [], ◌∷◌, ◌++◌, length, arith, refl, sym, ap, ◌∙◌, subst, append_assoc, length-append}
use Rattle.std.specs.Prelude.{true, false}
use Rattle.std.specs.List.{list_any}
use Rattle.query_spec.specs.Mentions.{same_name}
use Rattle.struql_ast.specs.Written.{Name}
use Rattle.struql_check.specs.declared.mentions.VariableUse.{VariableUse}
use Rattle.struql_check.specs.Faults.{IsPast}
use Rattle.struql_check.specs.Known.{names_of}
use Rattle.struql_check.proofs.NameLists.{names_new, names_known, names_grow, names_unknown, unknown_names}

pub known_more : (ms : List VariableUse) (m : VariableUse) (known : List Name) → known ≡ names_of ms → list_any (same_name m.name) known ≡ true → known ≡ names_of (ms ++ m ∷ [])
known_more ms m known e t = e ∙ sym (names_known ms m (subst (λ (l : List Name). list_any (same_name m.name) l ≡ true) e t))

pub new_more : (ms : List VariableUse) (m : VariableUse) (known : List Name) → known ≡ names_of ms → list_any (same_name m.name) known ≡ false → known ++ m.name ∷ [] ≡ names_of (ms ++ m ∷ [])
new_more ms m known e f = ap (λ l. l ++ m.name ∷ []) e ∙ sym (names_new ms m (subst (λ (l : List Name). list_any (same_name m.name) l ≡ false) e f))

pub past_here : (ms : List VariableUse) (m : VariableUse) (known : List Name) → known ≡ names_of ms → length known ≤ 32 → 32 ≤ length known → list_any (same_name m.name) known ≡ false → IsPast (ms ++ m ∷ []) m.at
past_here ms m known e least most f =
    let n : length (names_of ms) ≡ 32 = sym (ap length e) ∙ omega arith in
    (ms, m, [], refl, unknown_names ms m.name (subst (λ (l : List Name). list_any (same_name m.name) l ≡ false) e f), n, refl)

pub past_more : (ms ns : List VariableUse) (at : ℕ) → IsPast ms at → IsPast (ms ++ ns) at
past_more ms ns at (before, x, after, e, new, n, is) = (before, x, after ++ ns, ap (λ l. l ++ ns) e ∙ append_assoc before (x ∷ after) ns, new, n, is)

more_than : (before after : List VariableUse) (x : VariableUse) → list_any (same_name x.name) (names_of before) ≡ false → length (names_of before) < length (names_of (before ++ x ∷ after))
more_than before after x new =
    let one : length (names_of (before ++ x ∷ [])) ≡ length (names_of before ++ x.name ∷ []) = ap length (names_new before x new) in
    let grows : length (names_of (before ++ x ∷ [])) ≤ length (names_of (before ++ x ∷ after)) =
    subst (λ (l : List VariableUse). length (names_of (before ++ x ∷ [])) ≤ length (names_of l)) (append_assoc before (x ∷ []) after) (names_grow (before ++ x ∷ []) after) in
    omega (arith, length-append (names_of before) (x.name ∷ []))

-- where the variables are few, no mention is past them
pub never_past : (ms : List VariableUse) (at : ℕ) → length (names_of ms) ≤ 32 → IsPast ms at → ⊥
never_past ms at few (before, x, after, e, new, n, is) =
    let more = more_than before after x (names_unknown before x.name new) in
    let whole : length (names_of ms) ≡ length (names_of (before ++ x ∷ after)) = ap (λ (l : List VariableUse). length (names_of l)) e in
    absurd (omega arith)

-- two ways to part a list, of which the first part is the shorter: its next item stands in the other's first part
parted : (b₁ a₁ b₂ a₂ : List VariableUse) (x y : VariableUse) → b₁ ++ x ∷ a₁ ≡ b₂ ++ y ∷ a₂ → length b₁ < length b₂ → (m : List VariableUse) × (b₂ ≡ b₁ ++ x ∷ m)
parted [] a₁ [] a₂ x y e l = absurd (omega arith)
parted [] a₁ (z ∷ b₂) a₂ x y e l = (b₂, (let h : x ≡ z = cc in ap (λ w. w ∷ b₂) (sym h)))
parted (w ∷ b₁) a₁ [] a₂ x y e l = absurd (omega arith)
parted (w ∷ b₁) a₁ (z ∷ b₂) a₂ x y e l =
    let tails : b₁ ++ x ∷ a₁ ≡ b₂ ++ y ∷ a₂ = cc in
    let rest = parted b₁ a₁ b₂ a₂ x y tails (omega arith) in
    (rest.0, (let h : w ≡ z = cc in let k = rest.1 in cc))

alike : (b₁ a₁ b₂ a₂ : List VariableUse) (x y : VariableUse) → b₁ ++ x ∷ a₁ ≡ b₂ ++ y ∷ a₂ → length b₁ ≡ length b₂ → x ≡ y
alike [] a₁ [] a₂ x y e l = cc
alike [] a₁ (z ∷ b₂) a₂ x y e l = absurd (omega arith)
alike (w ∷ b₁) a₁ [] a₂ x y e l = absurd (omega arith)
alike (w ∷ b₁) a₁ (z ∷ b₂) a₂ x y e l = (let tails : b₁ ++ x ∷ a₁ ≡ b₂ ++ y ∷ a₂ = cc in alike b₁ a₁ b₂ a₂ x y tails (omega arith))

not_shorter : (b₁ a₁ b₂ a₂ : List VariableUse) (x y : VariableUse) → b₁ ++ x ∷ a₁ ≡ b₂ ++ y ∷ a₂ → list_any (same_name x.name) (names_of b₁) ≡ false → length (names_of b₁) ≡ 32 → length (names_of b₂) ≡ 32 → length b₁ < length b₂ → ⊥
not_shorter b₁ a₁ b₂ a₂ x y e new n k l =
    let p = parted b₁ a₁ b₂ a₂ x y e l in
    let more = more_than b₁ p.0 x new in
    let whole : length (names_of b₂) ≡ length (names_of (b₁ ++ x ∷ p.0)) = ap (λ (l : List VariableUse). length (names_of l)) p.1 in
    absurd (omega arith)

by_length : (a b : ℕ) (P : Type 0) → (a < b → P) → (b < a → P) → (a ≡ b → P) → P
by_length a b P less more same = grind arith

-- one place at most is past them
pub past_once : (ms : List VariableUse) (at there : ℕ) → IsPast ms at → IsPast ms there → there ≡ at
past_once ms at there (before, x, after, e, new, n, is) (before₂, y, after₂, e₂, new₂, n₂, is₂) =
    by_length (length before) (length before₂) (there ≡ at)
    (λ l. absurd (not_shorter before after before₂ after₂ x y (sym e ∙ e₂) (names_unknown before x.name new) n n₂ l))
    (λ l. absurd (not_shorter before₂ after₂ before after y x (sym e₂ ∙ e) (names_unknown before₂ y.name new₂) n₂ n l))
    (λ l. is₂ ∙ (sym (ap (λ m. m.at) (alike before after before₂ after₂ x y (sym e ∙ e₂) l)) ∙ sym is))
