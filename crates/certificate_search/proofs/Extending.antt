-- How the search goes on with one name more.
use Rattle.std.proofs.Common.{◌≡◌, ℕ, suc, ◌+◌, ◌-◌, ◌<◌, ◌≤◌, List, [], ◌∷◌, ◌++◌, length, take, drop, get_or, refl, ap, sym, ◌∙◌, arith}
use Rattle.std.proofs.lemmas.List.{take_all, drop_all}
use Rattle.std.specs.Prelude.{Bool, true, false, ◌&&◌, if◌then◌else◌, Option, Some, None}
use Rattle.sd_value.specs.Names.{Name}
use Rattle.query_spec.specs.declared.Variable.{Variable}
use Rattle.constraint_recheck.specs.Recheck.{same_sort}
use Rattle.constraint_recheck.specs.Options.{first_of, if_none, tried_until}
use Rattle.constraint_recheck.specs.Search.{mapped, extend, extend_tried}
use Rattle.certificate_search.proofs.RenamedSteps.{dropped, first_some, first_none}

-- what is found where the variable v is mapped to w
abbrev pub extend_by : (List Name → Bool) → List Variable → List Variable → Variable → List Name → Variable → Option (List Name)
extend_by test targets left v ys = mapped test v ys (extend test targets left) None

-- how much is tried for it
abbrev pub by_tried : (List Name → Bool) → List Variable → List Variable → Variable → List Name → Variable → ℕ
by_tried test targets left v ys w = suc (mapped test v ys (extend_tried test targets left) 0 w)

pub extend_first : (test : List Name → Bool) (targets left : List Variable) (v : Variable) (ys : List Name)
    → extend test targets (v ∷ left) ys ≡ first_of (extend_by test targets left v ys) targets
extend_first test targets left v ys = refl

-- ---- the variables one after another

module _ (test : List Name → Bool) (targets left : List Variable) (v : Variable) (ys : List Name) (i : ℕ) (w : Variable) (lt : i < length targets) (at : w ≡ get_or targets i w) where
  abbrev may : Bool
  may = same_sort w.arc v.arc && test (ys ++ w.name ∷ [])

  abbrev rest : ℕ → ℕ
  rest j = tried_until (extend_by test targets left v ys) (by_tried test targets left v ys) (drop j targets)

  abbrev firsts : ℕ → Option (List Name)
  firsts j = first_of (extend_by test targets left v ys) (drop j targets)

  -- how much is tried at this one, and behind it
  abbrev pub here : ℕ
  here = mapped test v ys (extend_tried test targets left) 0 w

  abbrev pub behind : ℕ
  behind = if_none (extend_by test targets left v ys w) (rest (i + 1))

  pub tried_here : rest i ≡ suc here + behind
  tried_here = ap (tried_until (extend_by test targets left v ys) (by_tried test targets left v ys)) (dropped targets i w lt at)

  -- it may not be mapped to
  pub refused : may ≡ false → (firsts i ≡ firsts (i + 1)) × (rest i ≡ 1 + rest (i + 1))
  refused e =
      let none : extend_by test targets left v ys w ≡ None = ap (λ b. if b then extend test targets left (ys ++ w.name ∷ []) else None) e in
      let zero : here ≡ 0 = ap (λ b. if b then extend_tried test targets left (ys ++ w.name ∷ []) else 0) e in
      let more : behind ≡ rest (i + 1) = ap (λ o. if_none o (rest (i + 1))) none in
      (first_none (extend_by test targets left v ys) targets i w lt at none, omega (arith, tried_here, zero, more))

  module _ (e : may ≡ true) where
    pub here_is : here ≡ extend_tried test targets left (ys ++ w.name ∷ [])
    here_is = ap (λ b. if b then extend_tried test targets left (ys ++ w.name ∷ []) else 0) e

    answer_is : extend_by test targets left v ys w ≡ extend test targets left (ys ++ w.name ∷ [])
    answer_is = ap (λ b. if b then extend test targets left (ys ++ w.name ∷ []) else None) e

    -- nothing is found with it
    pub failed : extend test targets left (ys ++ w.name ∷ []) ≡ None → (firsts i ≡ firsts (i + 1)) × (rest i ≡ suc (extend_tried test targets left (ys ++ w.name ∷ [])) + rest (i + 1))
    failed n =
        let none : extend_by test targets left v ys w ≡ None = answer_is ∙ n in
        let more : behind ≡ rest (i + 1) = ap (λ o. if_none o (rest (i + 1))) none in
        (first_none (extend_by test targets left v ys) targets i w lt at none, omega (arith, tried_here, here_is, more))

    -- names are found with it
    pub found_with : (zs : List Name) → extend test targets left (ys ++ w.name ∷ []) ≡ Some zs → (firsts i ≡ Some zs) × (rest i ≡ suc (extend_tried test targets left (ys ++ w.name ∷ [])))
    found_with zs f =
        let some : extend_by test targets left v ys w ≡ Some zs = answer_is ∙ f in
        let more : behind ≡ 0 = ap (λ o. if_none o (rest (i + 1))) some in
        (first_some (extend_by test targets left v ys) targets i w zs lt at some, omega (arith, tried_here, here_is, more))

-- none is left
pub none_left : (test : List Name → Bool) (targets left : List Variable) (v : Variable) (ys : List Name) (i : ℕ) → length targets ≤ i
    → (first_of (extend_by test targets left v ys) (drop i targets) ≡ None) × (tried_until (extend_by test targets left v ys) (by_tried test targets left v ys) (drop i targets) ≡ 0)
none_left test targets left v ys i le =
    (ap (first_of (extend_by test targets left v ys)) (drop_all i targets le), ap (tried_until (extend_by test targets left v ys) (by_tried test targets left v ys)) (drop_all i targets le))

-- the first of the variables that are left, and those behind it
pub left_first : (left : List Variable) (v : Variable) → 1 ≤ length left → v ≡ get_or left 0 v → left ≡ v ∷ take (length left - 1) (drop 1 left)
left_first [] v le at = absurd (omega arith)
left_first (w ∷ ws) v le at =
    ap (λ z. z ∷ ws) (sym at) ∙ ap (λ zs. v ∷ zs) (sym (take_all (suc (length ws) - 1) ws (omega arith)))
