-- Names for all variables are found one after another where there are any.
use Rattle.std.proofs.Common.{◌≡◌, ℕ, zero, suc, ◌<◌, ◌≤◌, List, [], ◌∷◌, ◌++◌, length, take, refl, ap, sym, ◌∙◌, subst, arith}
use Rattle.std.specs.Prelude.{Bool, true, ◌&&◌, Contains, None, if◌then◌else◌}
use Rattle.std.specs.Bool.{Decides}
use Rattle.std.specs.List.{AllZip}
use Rattle.sd_value.specs.Names.{Name}
use Rattle.query_spec.specs.declared.Variable.{Variable}
use Rattle.constraint_recheck.specs.Recheck.{same_sort}
use Rattle.query_parts.proofs.Bools.{both}
use Rattle.constraint_recheck.proofs.Links.{sort_decides}
use Rattle.constraint_recheck.specs.Options.{Finds}
use Rattle.constraint_recheck.specs.Search.{extend}
use Rattle.constraint_recheck.proofs.Options.{finds_as, finds_if, first_finds}

pub appended : (xs : List Name) (y : Name) (ys : List Name) → (xs ++ y ∷ []) ++ ys ≡ xs ++ y ∷ ys
appended [] y ys = refl
appended (x ∷ xs) y ys = ap (λ zs. x ∷ zs) (appended xs y ys)

pub appended_none : (xs : List Name) → xs ++ [] ≡ xs
appended_none [] = refl
appended_none (x ∷ xs) = ap (λ zs. x ∷ zs) (appended_none xs)

-- each name is that of a variable of the sort
abbrev pub Sorts : List Variable → List Variable → List Name → Type 0
Sorts targets variables ys = AllZip (λ v y. Contains targets (record { name = y; arc = v.arc })) variables ys

decides_here : (b : Bool) → Decides b (b ≡ true)
decides_here b = (λ e. e, λ e. e)

module _ (test : List Name → Bool) (targets : List Variable) where
  -- the test is passed as each of the names comes behind those before
  abbrev pub Ahead : List Name → List Name → Type 0
  Ahead ys [] = Unit {0}
  Ahead ys (y ∷ more) = (test (ys ++ y ∷ []) ≡ true) × Ahead (ys ++ y ∷ []) more

  -- the names go on with such a name for each variable that is left
  pub record GoesOn (left : List Variable) (ys names : List Name) : Type 0 where
    pub more : List Name
    pub all : names ≡ ys ++ more
    pub sorts : Sorts targets left more
    pub ahead : Ahead ys more

  one_to : (v : Variable) (left : List Variable) (ys : List Name) (w : Variable) (names : List Name) → Contains targets w
      → (w.arc ≡ v.arc) × (test (ys ++ w.name ∷ []) ≡ true) → GoesOn left (ys ++ w.name ∷ []) names → GoesOn (v ∷ left) ys names
  one_to v left ys w names m (sort, passed) rest = record {
    more = w.name ∷ rest.more;
    all = rest.all ∙ appended ys w.name rest.more;
    sorts = (subst (Contains targets) (λ i. record { name = w.name; arc = sort i }) m, rest.sorts);
    ahead = (passed, rest.ahead);
  }

  one_from : (v : Variable) (left : List Variable) (ys names more : List Name) → names ≡ ys ++ more → Sorts targets (v ∷ left) more → Ahead ys more
      → (w : Variable) × Contains targets w × (((w.arc ≡ v.arc) × (test (ys ++ w.name ∷ []) ≡ true)) × GoesOn left (ys ++ w.name ∷ []) names)
  one_from v left ys names [] e sorts ahead = absurd sorts
  one_from v left ys names (y ∷ more) e sorts ahead = (
    record { name = y; arc = v.arc },
    sorts.0,
    (
      (refl, ahead.0),
      record {
        more = more;
        all = e ∙ sym (appended ys y more);
        sorts = sorts.1;
        ahead = ahead.1;
      },
    ),
  )

  pub extend_finds : (left : List Variable) (ys : List Name) → Finds (GoesOn left ys) (extend test targets left ys)
  extend_finds [] ys = record { more = []; all = sym (appended_none ys); sorts = tt; ahead = tt }
  extend_finds (v ∷ left) ys =
      finds_as
      (λ names. (w : Variable) × Contains targets w × (((w.arc ≡ v.arc) × (test (ys ++ w.name ∷ []) ≡ true)) × GoesOn left (ys ++ w.name ∷ []) names))
      (GoesOn (v ∷ left) ys)
      (λ names h. one_to v left ys h.0 names h.1 h.2.0 h.2.1)
      (λ names h. one_from v left ys names h.more h.all h.sorts h.ahead)
      (extend test targets (v ∷ left) ys)
      (first_finds
      (λ w. if same_sort w.arc v.arc && test (ys ++ w.name ∷ []) then extend test targets left (ys ++ w.name ∷ []) else None)
      (λ w names. ((w.arc ≡ v.arc) × (test (ys ++ w.name ∷ []) ≡ true)) × GoesOn left (ys ++ w.name ∷ []) names)
      targets
      (λ w m. finds_if
      (λ names. ((w.arc ≡ v.arc) × (test (ys ++ w.name ∷ []) ≡ true)) × GoesOn left (ys ++ w.name ∷ []) names)
      ((w.arc ≡ v.arc) × (test (ys ++ w.name ∷ []) ≡ true)) (λ names h. h.0)
      (same_sort w.arc v.arc && test (ys ++ w.name ∷ []))
      (both (same_sort w.arc v.arc) (test (ys ++ w.name ∷ [])) (sort_decides w.arc v.arc) (decides_here (test (ys ++ w.name ∷ []))))
      (extend test targets left (ys ++ w.name ∷ []))
      (λ h. finds_as (GoesOn left (ys ++ w.name ∷ []))
      (λ names. ((w.arc ≡ v.arc) × (test (ys ++ w.name ∷ []) ≡ true)) × GoesOn left (ys ++ w.name ∷ []) names)
      (λ names g. (h, g)) (λ names g. g.1) (extend test targets left (ys ++ w.name ∷ [])) (extend_finds left (ys ++ w.name ∷ [])))))

  -- the test is passed by the first n names, for each n
  abbrev pub Always : List Name → Type 0
  Always ys = (n : ℕ) → n ≤ length ys → test (take n ys) ≡ true

  to_always : (ys more : List Name) → Ahead ys more → (n : ℕ) → n < length more → test (ys ++ take (suc n) more) ≡ true
  to_always ys [] h n lt = absurd (omega arith)
  to_always ys (y ∷ more) h zero lt = h.0
  to_always ys (y ∷ more) h (suc n) lt = subst (λ z. test z ≡ true) (appended ys y (take (suc n) more)) (to_always (ys ++ y ∷ []) more h.1 n (omega arith))

  from_always : (ys more : List Name) → ((n : ℕ) → n < length more → test (ys ++ take (suc n) more) ≡ true) → Ahead ys more
  from_always ys [] h = tt
  from_always ys (y ∷ more) h =
      (h 0 (omega arith), from_always (ys ++ y ∷ []) more (λ n lt. subst (λ z. test z ≡ true) (sym (appended ys y (take (suc n) more))) (h (suc n) (omega arith))))

  always_of : (ys : List Name) → test [] ≡ true → Ahead [] ys → Always ys
  always_of ys e h zero le = e
  always_of ys e h (suc n) le = to_always [] ys h n (omega arith)

  pub names_find : (variables : List Variable) → Finds (λ ys. Sorts targets variables ys × Always ys) (if test [] then extend test targets variables [] else None)
  names_find variables =
      finds_if (λ ys. Sorts targets variables ys × Always ys) (test [] ≡ true) (λ ys h. h.1 0 (omega arith)) (test []) (decides_here (test []))
      (extend test targets variables [])
      (λ e. finds_as (GoesOn variables []) (λ ys. Sorts targets variables ys × Always ys)
      (λ ys g. (subst (Sorts targets variables) (sym g.all) g.sorts, subst Always (sym g.all) (always_of g.more e g.ahead)))
      (λ ys h. record { more = ys; all = refl; sorts = h.0; ahead = from_always [] ys (λ n lt. h.1 (suc n) (omega arith)) })
      (extend test targets variables []) (extend_finds variables []))
